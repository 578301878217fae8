-- The numbers of function starts: there is one way only from a place to a later one; and what a walk over them
-- has found before a place.
use Rattle.std.proofs.Common.{◌≡◌, ℕ, ◌+◌, ◌^◌, ◌≤◌, ◌<◌, List, [], ◌∷◌, ◌++◌, length, drop, Option, Some, None, cond, refl, sym, ap, ◌∙◌, subst, arith, inl, inr}
use Rattle.std.specs.Prelude.{sum, nat_lt}
use Rattle.std.specs.Option.{option_and_then}
use Rattle.std.proofs.lemmas.Bool.{cases_lt, cases_order}
use Rattle.std.proofs.lemmas.List.{append-nil, length-drop}
use Rattle.std.proofs.lemmas.List.Sums.{sum_by_push}
use Rattle.macho_fields.specs.FirstPlace.{IsLeastPlace}
use Rattle.macho_fields.specs.Image.{commands_of}
use Rattle.macho_fields.specs.Segment.{base_of}
use Rattle.macho_fields.proofs.Options.{some_of, of_some}
use Rattle.macho_tables.specs.Functions.{functions_from, IsNextFunction, stray_of, IsNonZeroFrom, IsLeastOfTable}
use Rattle.macho_tables.specs.Numbers.{number_bytes, digits_value, unsigned_at}
use Rattle.macho_tables.specs.StartNumbers.{AreNumbersFrom, AreNumbers, IsNoNumber, IsStartAt, IsFileAddress, IsStrayStart, BadNumber, StrayStart}
use Rattle.macho_tables.specs.declared.function_starts.FunctionStartSurvey.{FunctionStartSurvey}
use Rattle.macho_tables.specs.declared.function_starts.Functions.{Functions}
use Rattle.macho_tables.specs.declared.function_starts.Functions.TheVariants as functions
use Rattle.macho_tables.proofs.DataTables.{IsTableRule}
use Rattle.macho_tables.proofs.FunctionStarts.{number_size}
use Rattle.macho_tables.proofs.NumberEnds.{part_of}

-- a number ends past its place, in the table
pub number_within : (table : List ℕ) (place number after : ℕ) → unsigned_at table place ≡ Some (number, after) → (place < after) × (after ≤ length table)
unfolding unsigned_at
number_within table place number after is = by (number_bytes (drop place table)) refl is
  where
    by : (read : Option (List ℕ)) → number_bytes (drop place table) ≡ read
        → option_and_then {U = ℕ × ℕ} (λ bytes. cond (nat_lt (digits_value bytes) (2 ^ 64)) (Some (digits_value bytes, place + length bytes)) None) read ≡ Some (number, after)
        → (place < after) × (after ≤ length table)
    by None at found = absurd (cc)
    by (Some bytes) at found =
        let same = part_of _ (digits_value bytes, place + length bytes) (number, after) found in
        let end : place + length bytes ≡ after = ap (λ (r : ℕ × ℕ). r.1) same in
        let (some, whole) = number_size (drop place table) bytes at in
        let left = length-drop place table in (omega (arith, end, some), omega (arith, end, some, whole, left))

-- one read gives one number, and one place past it
same_read : (read : Option (ℕ × ℕ)) (number other after past : ℕ) → read ≡ Some (number, after) → read ≡ Some (other, past) → (number ≡ other) × (after ≡ past)
same_read read number other after past is also =
    let same : ◌≡◌ {A = ℕ × ℕ} (number, after) (other, past) = cc in
    (ap (λ (r : ℕ × ℕ). r.0) same, ap (λ (r : ℕ × ℕ). r.1) same)

module _ (table : List ℕ) where
  numbers_rise : (numbers : List ℕ) (start next : ℕ) → AreNumbersFrom table start numbers next → start ≤ next
  numbers_rise [] start next is = omega arith
  numbers_rise (first ∷ numbers) start next (after, at, some, rest) =
      let within = number_within table start first after at in
      let more = numbers_rise numbers after next rest in omega (arith, within.0, more)

  -- one number more
  pub numbers_more : (numbers : List ℕ) (start place more next : ℕ) → AreNumbersFrom table start numbers place → unsigned_at table place ≡ Some (more, next) → 0 < more
      → AreNumbersFrom table start (numbers ++ more ∷ []) next
  numbers_more [] start place more next is at some = (next, rw is at, some, refl)
  numbers_more (first ∷ numbers) start place more next (after, here, one, rest) at some = (after, here, one, numbers_more numbers after place more next rest at some)

  -- those that come up to a later place go on where those to an earlier one end
  numbers_on : (short long : List ℕ) (start place next : ℕ) → AreNumbersFrom table start short place → AreNumbersFrom table start long next → place ≤ next
      → (rest : List ℕ) × AreNumbersFrom table place rest next × (long ≡ short ++ rest)
  numbers_on [] long start place next is far less = (long, rw (sym is) far, refl)
  numbers_on (first ∷ short) [] start place next (after, at, some, rest) is less =
      let within = number_within table start first after at in
      let more = numbers_rise short after place rest in absurd (omega (arith, within.0, more, less, is))
  numbers_on (first ∷ short) (second ∷ long) start place next (after, at, some, near) (past, there, one, far) less =
      let (same, equal) = same_read _ first second after past at there in
      let (rest, on, is) = numbers_on short long after place next near (rw equal far) less in
      (rest, on, ap (λ (numbers : List ℕ). second ∷ numbers) is ∙ ap (λ (n : ℕ). n ∷ (short ++ rest)) (sym same))

  -- so another one is at the earlier place
  goes_on : (short long : List ℕ) (place next : ℕ) → AreNumbers table short place → AreNumbers table long next → place < next
      → (number : ℕ) × (after : ℕ) × (unsigned_at table place ≡ Some (number, after)) × (0 < number) × (after ≤ next)
  goes_on short long place next near far less = let (rest, on, is) = numbers_on short long 0 place next near far (omega (arith, less)) in first rest on
    where
      first : (rest : List ℕ) → AreNumbersFrom table place rest next → (number : ℕ) × (after : ℕ) × (unsigned_at table place ≡ Some (number, after)) × (0 < number) × (after ≤ next)
      first [] same = absurd (omega (arith, less, same))
      first (number ∷ rest) (after, at, some, on) = (number, after, at, some, numbers_rise rest after next on)

  -- and those up to one place are the same
  same_numbers : (numbers others : List ℕ) (place : ℕ) → AreNumbers table numbers place → AreNumbers table others place → others ≡ numbers
  same_numbers numbers others place near far = let (rest, on, is) = numbers_on numbers others 0 place place near far (omega arith) in is ∙ none rest on
    where
      none : (rest : List ℕ) → AreNumbersFrom table place rest place → numbers ++ rest ≡ numbers
      none [] same = append-nil numbers
      none (first ∷ rest) (after, at, some, on) =
          let within = number_within table place first after at in
          let more = numbers_rise rest after place on in absurd (omega (arith, within.0, more))

-- what was found up to a place
abbrev pub IsFound : List ℕ → List ℕ → ℕ → List ℕ → Functions → Type 0
IsFound image table place numbers (functions.Sound from) =
    (base : ℕ) × (base_of image (commands_of image) ≡ Some base) × (from ≡ base + sum numbers) × ((early : ℕ) → early < place → ¬ StrayStart image table early)
IsFound image table place numbers (functions.Stray at) = StrayStart image table at × ((other : ℕ) → StrayStart image table other → at ≤ other)
IsFound image table place numbers functions.Unknown = base_of image (commands_of image) ≡ None

-- where a walk has come
pub record IsWalked (image table : List ℕ) (place : ℕ) (last : Functions) : Type 0 where
  pub inside : place ≤ length table
  pub numbers : List ℕ
  pub are : AreNumbers table numbers place
  pub found : IsFound image table place numbers last

pub walk_start : (image table : List ℕ) → IsWalked image table 0 (functions_from (base_of image (commands_of image)))
walk_start image table = record { inside = omega arith; numbers = []; are = refl; found = by (base_of image (commands_of image)) refl }
  where
    by : (base : Option ℕ) → base_of image (commands_of image) ≡ base → IsFound image table 0 [] (functions_from base)
    by None is = is
    by (Some base) is = (base, is, omega arith, λ early less. absurd (omega (arith, less)))

-- a number is at the place
module _ (image table : List ℕ) (place : ℕ) (numbers : List ℕ) (are : AreNumbers table numbers place) (distance next : ℕ)
    (at : unsigned_at table place ≡ Some (distance, next)) (some : 0 < distance) where
  -- no function comes before the next one
  none_between : (between : ℕ) → place < between → between < next → ¬ StrayStart image table between
  none_between between past less stray =
      let (base, is, (address, (others, number, after, chain, there, more, sums), none)) = some_of (λ base. IsStrayStart image base table between) (base_of image (commands_of image)) stray in
      let (other, end, here, one, near) = goes_on table numbers others place between are chain past in
      let same = (same_read _ distance other next end at here).1 in omega (arith, same, near, less)

  -- the address of the function is that number past the one before it
  pub address_here : (base address : ℕ) → IsStartAt table base place address → address ≡ base + sum numbers + distance
  address_here base address (others, number, after, chain, there, more, sums) =
      let one = (same_read _ distance number next after at there).0 in
      let all = ap sum (same_numbers table numbers others place are chain) in omega (arith, one, all, sums)

  -- so it is there if the function is not at a byte of the file
  pub stray_here : (base : ℕ) → base_of image (commands_of image) ≡ Some base → ¬ IsFileAddress image (base + sum numbers + distance) → StrayStart image table place
  stray_here base is none =
      of_some (λ b. IsStrayStart image b table place) (base_of image (commands_of image)) base is
      (base + sum numbers + distance, (numbers, distance, next, are, at, some, refl), none)

  pub sound_here : (base : ℕ) → base_of image (commands_of image) ≡ Some base → IsFileAddress image (base + sum numbers + distance) → ¬ StrayStart image table place
  sound_here base is has stray =
      let (other, at_base, (address, starts, none)) = some_of (λ b. IsStrayStart image b table place) (base_of image (commands_of image)) stray in
      let same : base ≡ other = cc in
      let sums = address_here other address starts in
      let equal : base + sum numbers + distance ≡ address = omega (arith, same, sums) in none (subst (IsFileAddress image) equal has)

module _ (image table : List ℕ) (place : ℕ) (found : Functions) (walked : IsWalked image table place found) where
  -- one number more
  pub walk_more : (distance next : ℕ) (new : Functions) → unsigned_at table place ≡ Some (distance, next) → 0 < distance → IsNextFunction image place distance found new → IsWalked image table next new
  walk_more distance next new at some noted = record {
    inside = (number_within table place distance next at).1;
    numbers = walked.numbers ++ distance ∷ [];
    are = numbers_more table walked.numbers 0 place distance next walked.are at some;
    found = by found walked.found noted;
  }
    where
      numbers : List ℕ
      numbers = walked.numbers

      total : sum (numbers ++ distance ∷ []) ≡ sum numbers + distance
      total = sum_by_push (λ n. n) numbers distance

      by : (old : Functions) → IsFound image table place numbers old → IsNextFunction image place distance old new → IsFound image table next (numbers ++ distance ∷ []) new
      by (functions.Sound from) (base, is, sums, none) (inl (has, same)) =
          let here : from + distance ≡ base + sum numbers + distance = omega (arith, sums) in
          subst (IsFound image table next (numbers ++ distance ∷ [])) (sym same) (
            base,
            is,
            omega (arith, sums, total),
            λ early less stray. elim (cases_order early place) [
              | inl equal ↦ sound_here image table place numbers walked.are distance next at some base is (subst (IsFileAddress image) here has) (subst (StrayStart image table) equal stray)
              | inr (inl before) ↦ none early before stray
              | inr (inr after) ↦ none_between image table place numbers walked.are distance next at some early after less stray
            ],
          )
      by (functions.Sound from) (base, is, sums, none) (inr (not, same)) =
          let here : base + sum numbers + distance ≡ from + distance = omega (arith, sums) in
          subst (IsFound image table next (numbers ++ distance ∷ [])) (sym same) (
            stray_here image table place numbers walked.are distance next at some base is (λ has. not (subst (IsFileAddress image) here has)),
            λ other stray. elim (cases_lt other place) [ inl before ↦ absurd (none other before stray) | inr after ↦ after ],
          )
      by (functions.Stray first) least same = subst (IsFound image table next (numbers ++ distance ∷ [])) (sym same) least
      by functions.Unknown none same = subst (IsFound image table next (numbers ++ distance ∷ [])) (sym same) none

  -- no function is at the place
  module _ (none : (number after : ℕ) → unsigned_at table place ≡ Some (number, after) → ¬ (0 < number)) where
    none_late : (late : ℕ) (others : List ℕ) → AreNumbers table others late → place < late → ⊥
    none_late late others chain past =
        let (number, after, at, some, near) = goes_on table walked.numbers others place late walked.are chain past in none number after at some

    pub walk_over : IsLeastPlace (StrayStart image table) (stray_of found)
    walk_over = by found walked.found
      where
        by : (last : Functions) → IsFound image table place walked.numbers last → IsLeastPlace (StrayStart image table) (stray_of last)
        by (functions.Sound from) (base, is, sums, early) = λ other stray.
            let (b, at, (address, (others, number, after, chain, there, more, sum_is), gone)) = some_of (λ b. IsStrayStart image b table other) (base_of image (commands_of image)) stray in
            elim (cases_order other place) [
              | inl equal ↦ none number after (subst (λ p. unsigned_at table p ≡ Some (number, after)) equal there) more
              | inr (inl before) ↦ early other before stray
              | inr (inr late) ↦ none_late other others chain late
            ]
        by (functions.Stray first) least = least
        by functions.Unknown missing = λ other stray. let (b, at, rest) = some_of (λ b. IsStrayStart image b table other) (base_of image (commands_of image)) stray in absurd (cc)

  -- each number before the place is one
  no_number_before : (early : ℕ) → early < place → IsNoNumber table early → ⊥
  no_number_before early less ((others, chain), inside, none) =
      let (number, after, at, some, near) = goes_on table others walked.numbers early place chain walked.are less in absurd (cc)

  -- and is not 0
  last_not_before : (last after : ℕ) (others : List ℕ) → AreNumbers table others last → unsigned_at table last ≡ Some (0, after) → place ≤ last
  last_not_before last after others chain at = elim (cases_lt last place) [
    | inl before ↦
        let (number, end, here, some, near) = goes_on table others walked.numbers last place chain walked.are before in
        let same = (same_read _ 0 number after end at here).0 in absurd (omega (arith, same, some))
    | inr late ↦ late
  ]

  -- no number begins at the place
  pub number_missing : place < length table → unsigned_at table place ≡ None → IsLeastPlace (BadNumber image table) (Some place)
  number_missing inside none = (inl ((walked.numbers, walked.are), inside, none), least)
    where
      least : (other : ℕ) → BadNumber image table other → place ≤ other
      least other (inl broken) = elim (cases_lt other place) [ inl before ↦ absurd (no_number_before other before broken) | inr late ↦ late ]
      least other (inr (others, last, after, chain, at, past, nonzero)) =
          let late = last_not_before last after others chain at in
          let within = number_within table last 0 after at in omega (arith, late, within.0, past)

  -- the last one is there
  pub number_last : (next : ℕ) (first : Option ℕ) → unsigned_at table place ≡ Some (0, next) → IsLeastPlace (IsNonZeroFrom table next) first → IsLeastPlace (BadNumber image table) first
  number_last next first at = by first
    where
      none : (number after : ℕ) → unsigned_at table place ≡ Some (number, after) → ¬ (0 < number)
      none number after here some = let same = (same_read _ 0 number next after at here).0 in omega (arith, same, some)

      past : (other : ℕ) → BadNumber image table other → IsNonZeroFrom table next other
      past other (inl ((others, chain), inside, missing)) = elim (cases_order other place) [
        | inl equal ↦ let here : unsigned_at table place ≡ None = subst (λ p. unsigned_at table p ≡ None) equal missing in absurd (cc)
        | inr (inl before) ↦ absurd (no_number_before other before ((others, chain), inside, missing))
        | inr (inr late) ↦ absurd (none_late none other others chain late)
      ]
      past other (inr (others, last, after, chain, there, less, nonzero)) = elim (cases_order last place) [
        | inl equal ↦
            let here : unsigned_at table place ≡ Some (0, after) = subst (λ p. unsigned_at table p ≡ Some (0, after)) equal there in
            let same = (same_read _ 0 0 next after at here).1 in (omega (arith, same, less), nonzero)
        | inr (inl before) ↦ let late = last_not_before last after others chain there in absurd (omega (arith, before, late))
        | inr (inr late) ↦ absurd (none_late none last others chain late)
      ]

      by : (found : Option ℕ) → IsLeastPlace (IsNonZeroFrom table next) found → IsLeastPlace (BadNumber image table) found
      by None nothing = λ other broken. nothing other (past other broken)
      by (Some other) (has, least) = (inr (walked.numbers, place, next, walked.are, at, has.0, has.1), λ place broken. least place (past place broken))

  -- the table ends there
  pub numbers_end : length table ≤ place → IsLeastPlace (BadNumber image table) None
  numbers_end end other (inl ((others, chain), inside, missing)) = no_number_before other (omega (arith, end, inside)) ((others, chain), inside, missing)
  numbers_end end other (inr (others, last, after, chain, at, past, nonzero)) =
      let late = last_not_before last after others chain at in
      let within = number_within table last 0 after at in omega (arith, late, within.0, within.1, end)

-- The rules are broken at places in the table
pub bad_number_near : (image : List ℕ) → IsTableRule image BadNumber
bad_number_near image table place some (inl broken) = broken.1
bad_number_near image table place some (inr (numbers, last, after, are, at, past, nonzero)) = nonzero.0

pub stray_start_near : (image : List ℕ) → IsTableRule image StrayStart
stray_start_near image table place some broken =
    let (base, is, (address, (numbers, number, after, are, at, more, sums), none)) = some_of (λ base. IsStrayStart image base table place) (base_of image (commands_of image)) broken in
    let within = number_within table place number after at in omega (arith, within.0, within.1)

-- What a walk over all of them finds
module _ (image table : List ℕ) (place : ℕ) (last : Functions) (walked : IsWalked image table place last) (survey : FunctionStartSurvey) (start : survey.start ≡ stray_of last) where
  stray_first : ((number after : ℕ) → unsigned_at table place ≡ Some (number, after) → ¬ (0 < number)) → IsLeastPlace (StrayStart image table) survey.start
  stray_first none = subst (IsLeastPlace (StrayStart image table)) (sym start) (walk_over image table place last walked none)

  -- no number begins at the place
  pub survey_missing : survey.number ≡ Some place → place < length table → unsigned_at table place ≡ None → IsLeastOfTable image table survey
  survey_missing number inside none = record {
    number = subst (IsLeastPlace (BadNumber image table)) (sym number) (number_missing image table place last walked inside none);
    start = stray_first (λ other after at some. absurd (cc));
  }

  -- the last one is there
  pub survey_last : (next : ℕ) → unsigned_at table place ≡ Some (0, next) → IsLeastPlace (IsNonZeroFrom table next) survey.number → IsLeastOfTable image table survey
  survey_last next at first = record {
    number = number_last image table place last walked next survey.number at first;
    start = stray_first (λ other after here some. let same = (same_read _ 0 other next after at here).0 in omega (arith, same, some));
  }

  -- the table ends there
  pub survey_end : survey.number ≡ None → length table ≤ place → IsLeastOfTable image table survey
  survey_end number end = record {
    number = subst (IsLeastPlace (BadNumber image table)) (sym number) (numbers_end image table place last walked end);
    start = stray_first (λ other after at some. let within = number_within table place other after at in omega (arith, within.0, within.1, end));
  }
