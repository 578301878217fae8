-- A walk over the steps of a stream: what it has noted of each rule before a place.
use Rattle.std.proofs.Common.{◌≡◌, ℕ, ◌+◌, ◌-◌, ◌*◌, ◌^◌, ◌≤◌, ◌<◌, List, [], ◌∷◌, ◌++◌, length, fold, Option, Some, None, MatchOption, inl, inr, refl, sym, ap, ◌∙◌, subst, arith}
use Rattle.std.proofs.lemmas.Bool.{cases_lt, cases_eq}
use Rattle.std.proofs.lemmas.List.{append-nil}
use Rattle.std.proofs.lemmas.List.Sums.{fold_push, sum_by-append, sum_by-cons}
use Rattle.macho_fields.specs.FirstPlace.{IsNoted, IsLeastPlace}
use Rattle.macho_opcodes.specs.Cursor.{start, moved, cursor_after, writes, looks_up, looked_up}
use Rattle.macho_opcodes.specs.Steps.{step_at, AreStepsFrom, AreSteps}
use Rattle.macho_opcodes.specs.Streams.{At, pointers, names, IsUndecoded, NamesNoLibrary, LacksName, WritesOutside, PassesBudget, PassesNames, IsStreamSurvey, unbroken}
use Rattle.macho_opcodes.specs.declared.cursor.Cursor.{Cursor}
use Rattle.macho_opcodes.specs.declared.step.Opcodes.{Opcodes}
use Rattle.macho_opcodes.specs.declared.step.Step.{Step}
use Rattle.macho_opcodes.specs.declared.stream.Limits.{Limits}
use Rattle.macho_opcodes.specs.declared.stream.StreamSurvey.{StreamSurvey}
use Rattle.macho_opcodes.proofs.StepChains.{same_step, steps_rise, steps_more, steps_on}
use Rattle.macho_opcodes.proofs.Within.{step_within}

-- what is found is the least place with P below an end, and so of all
abbrev pub IsLeastBelow : (ℕ → Type 0) → ℕ → Option ℕ → Type 0
IsLeastBelow P end found =
    MatchOption found ((place : ℕ) → place < end → P place → ⊥)
    (λ least. P least × ((place : ℕ) → P place → least ≤ place))

module _ (P : ℕ → Type 0) where
  -- one place is passed, with P or without, and all places between it and the next one are without P
  pub below_more : (place next : ℕ) (broken : Type 0) (old new : Option ℕ) → IsLeastBelow P place old → IsNoted broken place old new
      → (broken → P place) → (P place → broken) → ((between : ℕ) → place < between → between < next → P between → ⊥)
      → IsLeastBelow P next new
  below_more place next broken (Some least) new found (inl (here, is)) to from none = subst (IsLeastBelow P next) (sym is) found
  below_more place next broken (Some least) new found (inr (kept, is)) to from none = subst (IsLeastBelow P next) (sym is) found
  below_more place next broken None new early (inl (here, is)) to from none =
      let found : IsLeastBelow P next (Some place) =
      (to here, λ other has. elim (cases_lt other place) [ inl less ↦ absurd (early other less has) | inr more ↦ more ]) in
      subst (IsLeastBelow P next) (sym is) found
  below_more place next broken None new early (inr (kept, is)) to from none =
      let found : IsLeastBelow P next None =
      (λ other less has. elim (cases_lt other place) [
        | inl before ↦ early other before has
        | inr more ↦ elim (cases_eq other place) [
          | inl same ↦ kept (from (subst P same has))
          | inr apart ↦ none other (omega (arith, more, apart)) less has
        ]
      ]) in
      subst (IsLeastBelow P next) (sym is) found

  -- none is left
  pub below_all : (end : ℕ) (found : Option ℕ) → IsLeastBelow P end found → ((place : ℕ) → end ≤ place → P place → ⊥) → IsLeastPlace P found
  below_all end None none past = λ place broken. elim (cases_lt place end) [ inl early ↦ none place early broken | inr late ↦ past place late broken ]
  below_all end (Some least) found past = found

-- what the steps up to a place have made of the cursor, and how much they have done
abbrev Progress : Opcodes → List ℕ → ℕ → Cursor → ℕ → ℕ → Type 0
Progress of stream place cursor written named =
    (before : List Step) × AreSteps of stream before place × (cursor ≡ cursor_after before) × (written ≡ pointers before) × (named ≡ names before)

-- where a walk has come
pub record IsWalked (of : Opcodes) (stream : List ℕ) (limits : Limits) (place : ℕ) (cursor : Cursor) (written named : ℕ) (survey : StreamSurvey) : Type 0 where
  pub inside : place ≤ length stream
  pub few : written ≤ place * (2 ^ 64 - 1)
  pub short : named ≤ place * (2 ^ 64 - 1)
  pub steps : Progress of stream place cursor written named
  pub opcode : survey.opcode ≡ None
  pub library : IsLeastBelow (At pointers (NamesNoLibrary limits.libraries) of stream) place survey.library
  pub symbol : IsLeastBelow (At pointers LacksName of stream) place survey.symbol
  pub slot : IsLeastBelow (At pointers (WritesOutside limits.rooms) of stream) place survey.slot
  pub total : IsLeastBelow (At pointers (PassesBudget limits.budget) of stream) place survey.total
  pub names : IsLeastBelow (At names (PassesNames (length stream)) of stream) place survey.names

module _ (done : List Step → ℕ) (P : Cursor → ℕ → Step → Type 0) (of : Opcodes) (stream : List ℕ) (place : ℕ) (before : List Step) (are : AreSteps of stream before place) where
  -- no step goes past a place without one
  pub none_past : step_at of stream place ≡ None → (late : ℕ) → place ≤ late → At done P of stream late → ⊥
  none_past none late less (others, next, after, chain, at, has) =
      let (rest, on, is) = steps_on of stream before others 0 place late are chain less in
      nothing rest on
    where
      nothing : (rest : List Step) → AreStepsFrom of stream place rest late → ⊥
      nothing [] same = let at_place : step_at of stream place ≡ Some (next, after) = rw same at in cc
      nothing (first ∷ rest) (end, here, on) = cc

  -- nor past the end of the stream
  pub none_outside : length stream ≤ place → (late : ℕ) → place ≤ late → At done P of stream late → ⊥
  none_outside past late less (others, next, after, chain, at, has) =
      let within = step_within of stream late next after at in omega arith

  module _ (here : Step) (after : ℕ) (at : step_at of stream place ≡ Some (here, after)) where
    -- the step at the place is the only one there
    pub at_here : At done P of stream place → P (cursor_after before) (done before) here
    at_here (others, next, end, chain, there, has) =
        let same = (same_step _ here next after end at there).0 in
        let (rest, on, is) = steps_on of stream before others 0 place place are chain (omega arith) in
        all_same rest on is same
      where
        all_same : (rest : List Step) → AreStepsFrom of stream place rest place → others ≡ before ++ rest → here ≡ next → P (cursor_after before) (done before) here
        all_same [] on is same =
            subst (λ (steps : List Step). P (cursor_after steps) (done steps) here) (is ∙ append-nil before)
            (subst (P (cursor_after others) (done others)) (sym same) has)
        all_same (first ∷ rest) (end_of, begins, on) is same =
            let within = step_within of stream place first end_of begins in
            let more = steps_rise of stream rest end_of place on in absurd (omega arith)

    -- and no place is with P up to its end
    pub none_between : (between : ℕ) → place < between → between < after → At done P of stream between → ⊥
    none_between between past less (others, next, end, chain, there, has) =
        let (rest, on, is) = steps_on of stream before others 0 place between are chain (omega arith) in
        nothing rest on
      where
        nothing : (rest : List Step) → AreStepsFrom of stream place rest between → ⊥
        nothing [] same = omega arith
        nothing (first ∷ rest) (end_of, begins, on) =
            let same = (same_step _ here first after end_of at begins).1 in
            let more = steps_rise of stream rest end_of between on in omega arith

-- Where a walk begins, goes on and ends

pub walk_start : (of : Opcodes) (stream : List ℕ) (limits : Limits) → IsWalked of stream limits 0 start 0 0 unbroken
walk_start of stream limits = record {
  inside = omega arith;
  few = omega arith;
  short = omega arith;
  steps = ([], refl, refl, refl, refl);
  opcode = refl;
  library = λ place below. absurd (omega arith);
  symbol = λ place below. absurd (omega arith);
  slot = λ place below. absurd (omega arith);
  total = λ place below. absurd (omega arith);
  names = λ place below. absurd (omega arith);
}

-- one step more looks up its name too
pub looked_up_more : (cursor : Cursor) (before : List Step) (here : Step) → looked_up cursor (before ++ here ∷ []) ≡ looked_up cursor before + looks_up (fold moved cursor before) here
looked_up_more cursor [] here = omega arith
looked_up_more cursor (first ∷ before) here = let more = looked_up_more (moved cursor first) before here in omega (arith, more)

module _ (of : Opcodes) (stream : List ℕ) (limits : Limits) (place : ℕ) (cursor : Cursor) (written named : ℕ) (survey : StreamSurvey)
    (walked : IsWalked of stream limits place cursor written named survey) where
  -- one step more
  pub walk_more : (here : Step) (after : ℕ) (noted : StreamSurvey) (next : Cursor) (total found : ℕ) → step_at of stream place ≡ Some (here, after)
      → writes here < 2 ^ 64 → looks_up cursor here < 2 ^ 64 → next ≡ moved cursor here → total ≡ written + writes here → found ≡ named + looks_up cursor here
      → noted.opcode ≡ survey.opcode
      → IsNoted (NamesNoLibrary limits.libraries cursor written here) place survey.library noted.library
      → IsNoted (LacksName cursor written here) place survey.symbol noted.symbol
      → IsNoted (WritesOutside limits.rooms cursor written here) place survey.slot noted.slot
      → IsNoted (PassesBudget limits.budget cursor written here) place survey.total noted.total
      → IsNoted (PassesNames (length stream) cursor named here) place survey.names noted.names
      → IsWalked of stream limits after next total found noted
  walk_more here after noted next total found at fits short moves counts finds opcode library symbol slot budget most =
      let (before, are, cursor_is, written_is, named_is) = walked.steps in
      let within = step_within of stream place here after at in record {
        inside = within.1;
        few = few_more within.0;
        short = short_more within.0;
        steps = (
          before ++ here ∷ [],
          steps_more of stream before 0 place here after are at,
          moves ∙ (ap (λ c. moved c here) cursor_is ∙ sym (fold_push moved start before here)),
          counts ∙ more before written_is,
          finds ∙ more_names before cursor_is named_is,
        );
        opcode = opcode ∙ walked.opcode;
        library = passed pointers written (NamesNoLibrary limits.libraries) before are cursor_is written_is _ _ walked.library library;
        symbol = passed pointers written LacksName before are cursor_is written_is _ _ walked.symbol symbol;
        slot = passed pointers written (WritesOutside limits.rooms) before are cursor_is written_is _ _ walked.slot slot;
        total = passed pointers written (PassesBudget limits.budget) before are cursor_is written_is _ _ walked.total budget;
        names = passed names named (PassesNames (length stream)) before are cursor_is named_is _ _ walked.names most;
      }
    where
      few_more : place < after → total ≤ after * (2 ^ 64 - 1)
      few_more past = let few = walked.few in omega (arith, few, counts, fits)

      short_more : place < after → found ≤ after * (2 ^ 64 - 1)
      short_more past = let few = walked.short in omega (arith, few, finds, short)

      more : (before : List Step) → written ≡ pointers before → written + writes here ≡ pointers (before ++ here ∷ [])
      more before is =
          let sum = sum_by-append writes before (here ∷ []) in
          let single = sum_by-cons writes here [] in omega (arith, is, sum, single)

      more_names : (before : List Step) → cursor ≡ cursor_after before → named ≡ names before → named + looks_up cursor here ≡ names (before ++ here ∷ [])
      more_names before cursor_is is =
          let sum = looked_up_more start before here in
          let same : looks_up cursor here ≡ looks_up (cursor_after before) here = ap (λ (c : Cursor). looks_up c here) cursor_is in omega (arith, is, sum, same)

      passed : (done : List Step → ℕ) (count : ℕ) (P : Cursor → ℕ → Step → Type 0) (before : List Step) → AreSteps of stream before place → cursor ≡ cursor_after before → count ≡ done before
          → (old new : Option ℕ) → IsLeastBelow (At done P of stream) place old → IsNoted (P cursor count here) place old new → IsLeastBelow (At done P of stream) after new
      passed done count P before are cursor_is count_is old new found note =
          let there : P cursor count here → P (cursor_after before) (done before) here =
          (λ has. subst (λ c. P c (done before) here) cursor_is (subst (λ n. P cursor n here) count_is has)) in
          let back : P (cursor_after before) (done before) here → P cursor count here =
          (λ has. subst (λ n. P cursor n here) (sym count_is) (subst (λ c. P c (done before) here) (sym cursor_is) has)) in
          below_more (At done P of stream) place after (P cursor count here) old new found note
          (λ has. (before, here, after, are, at, there has))
          (λ has. back (at_here done P of stream place before are here after at has))
          (none_between done P of stream place before are here after at)

  -- each opcode before the place says something
  decoded : (early : ℕ) → early < place → IsUndecoded of stream early → ⊥
  decoded early less ((others, chain), inside, none) =
      let (before, are, cursor_is, written_is, named_is) = walked.steps in
      let (rest, on, is) = steps_on of stream others before 0 early place chain are (omega arith) in
      nothing rest on
    where
      nothing : (rest : List Step) → AreStepsFrom of stream early rest place → ⊥
      nothing [] same = omega arith
      nothing (first ∷ rest) (end, here, on) = cc

  -- what is found where no step follows
  module _ (opcode : Option ℕ) (least : IsLeastPlace (IsUndecoded of stream) opcode)
      (past : (done : List Step → ℕ) (P : Cursor → ℕ → Step → Type 0) (late : ℕ) → place ≤ late → At done P of stream late → ⊥) where
    found_all : (done : List Step → ℕ) (P : Cursor → ℕ → Step → Type 0) (found : Option ℕ) → IsLeastBelow (At done P of stream) place found → IsLeastPlace (At done P of stream) found
    found_all done P found below = below_all (At done P of stream) place found below (past done P)

    walk_over : IsStreamSurvey of stream limits (record survey { opcode = opcode })
    walk_over = record {
      opcode = least;
      library = found_all pointers (NamesNoLibrary limits.libraries) survey.library walked.library;
      symbol = found_all pointers LacksName survey.symbol walked.symbol;
      slot = found_all pointers (WritesOutside limits.rooms) survey.slot walked.slot;
      total = found_all pointers (PassesBudget limits.budget) survey.total walked.total;
      names = found_all names (PassesNames (length stream)) survey.names walked.names;
    }

  -- the stream ends at the place
  pub walk_ended : length stream ≤ place → IsStreamSurvey of stream limits survey
  walk_ended end =
      let (before, are, cursor_is, written_is, named_is) = walked.steps in
      walk_over survey.opcode (subst (IsLeastPlace (IsUndecoded of stream)) (sym walked.opcode) all_decoded) (λ done P. none_outside done P of stream place before are end)
    where
      all_decoded : IsLeastPlace (IsUndecoded of stream) None
      all_decoded = λ other undecoded. elim (cases_lt other place) [
        | inl early ↦ decoded other early undecoded
        | inr late ↦ let inside : other < length stream = undecoded.1 in absurd (omega arith)
      ]

  -- the opcode at the place says nothing
  pub walk_stuck : place < length stream → step_at of stream place ≡ None → IsStreamSurvey of stream limits (record survey { opcode = Some place })
  walk_stuck inside none =
      let (before, are, cursor_is, written_is, named_is) = walked.steps in
      walk_over (Some place) (((before, are), inside, none), no_earlier) (λ done P. none_past done P of stream place before are none)
    where
      no_earlier : (other : ℕ) → IsUndecoded of stream other → place ≤ other
      no_earlier other undecoded = elim (cases_lt other place) [ inl early ↦ absurd (decoded other early undecoded) | inr late ↦ late ]
