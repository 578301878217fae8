-- A walk over a stream notes what its opcodes look up.
use Rattle.std.proofs.Common.{◌≡◌, ◌↔◌, ◌⊎◌, ◌∙◌, ℕ, zero, suc, ◌+◌, ◌-◌, ◌≤◌, List, [], ◌∷◌, ◌++◌, length, Option, None, Some, IfSome, Contains, refl, sym, ap, ap₂, subst, arith, inl, inr}
use Rattle.std.specs.Prelude.{MatchOption}
use Rattle.std.proofs.lemmas.Option.{same_Some, none-some}
use Rattle.macho_fields.specs.Field.{part}
use Rattle.macho_fields.specs.Layers.{NothingBreaks}
use Rattle.macho_fields.specs.Rules.{BreaksImage}
use Rattle.macho_fields.proofs.Options.{some_of}
use Rattle.macho_spans.specs.Span.{end_of}
use Rattle.macho_spans.specs.declared.span.Span.{Span}
use Rattle.macho_tables.specs.Places.{dyld_info}
use Rattle.macho_opcodes.specs.Cursor.{start, moved}
use Rattle.macho_opcodes.specs.Images.{opcodes_of}
use Rattle.macho_opcodes.specs.Steps.{step_at}
use Rattle.macho_opcodes.specs.declared.cursor.Cursor.{Cursor}
use Rattle.macho_opcodes.specs.declared.step.Step.{Step}
use Rattle.macho_opcodes.specs.declared.step.Step.TheVariants as step
use Rattle.macho_opcodes.specs.declared.streams.Stream.{Stream}
use Rattle.macho_opcodes.specs.declared.streams.Stream.TheVariants as streams
use Rattle.macho_alike.specs.Binds.{no_aim, aimed, looked_in, slot_offset, StepBinds, StreamBinds, BindsOf}
use Rattle.macho_alike.specs.BindLists.{WereAdded, AreSpread, first_of, spread}
use Rattle.macho_alike.specs.Imports.{IsFrom, BindLooksUp, IsOpcodeLookUp}
use Rattle.macho_alike.specs.LookUps.{LookUps, WereListed, WereNoted, HasAny, IsLookedUpIn, SomeLooksUp, text_of, IsNextNoted, BindsNothing, IsLookUpOf}
use Rattle.macho_alike.specs.declared.binds.Aim.{Aim}
use Rattle.macho_alike.specs.declared.binds.Bind.{Bind}
use Rattle.macho_alike.specs.declared.binds.Library.{Library}
use Rattle.macho_alike.specs.declared.binds.Source.{Source}
use Rattle.macho_alike.specs.declared.imports.LookUp.{LookUp}
use Rattle.macho_alike.proofs.BindLists.{added_none, spread_none, spread_more, step_added}
use Rattle.macho_alike.proofs.BindStreams.{is_bind}
use Rattle.macho_alike.proofs.BindWalks.{IsRead, read_start, read_stuck, read_all, read_named, read_more, binds_step}
use Rattle.macho_alike.proofs.NotedLookUps.{listed_none, listed_same, listed_then}

-- The binds of a step can be added to a list

added_spread : (first : Bind) (skip : ℕ) (items : List Bind) (count : ℕ) → (new : List Bind) × WereAdded (AreSpread first count skip) items new
added_spread first skip items zero = (items, spread_none first skip items)
added_spread first skip items (suc count) =
    let (before, added) = added_spread first skip items count in
    let unary : count + 1 ≡ suc count = omega arith in (
      before ++ spread first skip count ∷ [],
      subst (λ (n : ℕ). WereAdded (AreSpread first n skip) items (before ++ spread first skip count ∷ [])) unary
          (spread_more first skip items count before (before ++ spread first skip count ∷ []) added (spread first skip count) refl refl),
    )

module _ (one : Stream) (from place : ℕ) (cursor : Cursor) (aim : Aim) where
  abbrev Binds : Step → Bind → Type 0
  Binds next bind = StepBinds one from place cursor aim next bind

  abbrev source : Source
  source = record { stream = one; start = from; place = place }

  nothing_bound : (next : Step) → BindsNothing cursor next → (bind : Bind) → ¬ Binds next bind
  nothing_bound next nothing bind (segment, name, k, at, named, less, is) = let none = nothing segment name at named in omega (arith, none, less)

  abbrev Added : List Bind → Step → Type 0
  Added items next = (new : List Bind) × WereAdded (Binds next) items new

  added_nothing : (items : List Bind) (next : Step) → BindsNothing cursor next → Added items next
  added_nothing items next nothing = (items, added_none (Binds next) items (nothing_bound next nothing))

  added_write : (items : List Bind) (count skip : ℕ) (segment : Option ℕ) (name : Option Span) → cursor.segment ≡ segment → cursor.name ≡ name → Added items (step.Write count skip)
  added_write items count skip None name at named = added_nothing items (step.Write count skip) (λ s n is. absurd (none-some s (sym at ∙ is)))
  added_write items count skip (Some s) None at named = added_nothing items (step.Write count skip) (λ t n is is_name. absurd (none-some n (sym named ∙ is_name)))
  added_write items count skip (Some s) (Some n) at named =
      let first = first_of source s cursor.offset n aim in
      let (new, added) = added_spread first skip items count in
      (new, step_added source cursor aim (step.Write count skip) count skip refl s n at named first refl items new added)

  added_step : (items : List Bind) (next : Step) → Added items next
  added_step items (step.Write count skip) = added_write items count skip cursor.segment cursor.name refl refl
  added_step items step.Done = added_nothing items step.Done (λ s n at named. refl)
  added_step items step.SetPointer = added_nothing items step.SetPointer (λ s n at named. refl)
  added_step items (step.SetLibrary ordinal) = added_nothing items (step.SetLibrary ordinal) (λ s n at named. refl)
  added_step items (step.SetSpecial below) = added_nothing items (step.SetSpecial below) (λ s n at named. refl)
  added_step items (step.SetSymbol name flags) = added_nothing items (step.SetSymbol name flags) (λ s n at named. refl)
  added_step items (step.SetAddend addend) = added_nothing items (step.SetAddend addend) (λ s n at named. refl)
  added_step items (step.SetSegment segment offset) = added_nothing items (step.SetSegment segment offset) (λ s n at named. refl)
  added_step items (step.AddOffset distance) = added_nothing items (step.AddOffset distance) (λ s n at named. refl)

module _ (image : List ℕ) where
  -- The look-ups of a list

  abbrev pub AnyLooksUp : List Bind → List ℕ → Library → Type 0
  AnyLooksUp binds = SomeLooksUp image (Contains binds)

  -- what the last one says is listed
  abbrev pub LastListed : LookUps → Option LookUp → Type 0
  LastListed looks last = (look_up : LookUp) → last ≡ Some look_up → (from : Library) → IsFrom look_up.library from → Contains looks (text_of image look_up, from)

  module _ (P : Bind → Type 0) (items new : List Bind) (added : WereAdded P items new) (T : List ℕ → Library → Type 0)
      (only : (bind : Bind) → P bind → (name : List ℕ) (from : Library) → BindLooksUp image bind name from → T name from)
      (some : (name : List ℕ) (from : Library) → T name from → (bind : Bind) × P bind × BindLooksUp image bind name from) where
    look_ups_added : (name : List ℕ) (from : Library) → AnyLooksUp new name from ↔ (AnyLooksUp items name from ⊎ T name from)
    look_ups_added name from = (to, back)
      where
        to : AnyLooksUp new name from → AnyLooksUp items name from ⊎ T name from
        to (bind, has, looks) = elim ((added bind).0 has) [
          | inl was ↦ inl (bind, was, looks)
          | inr is ↦ inr (only bind is name from looks)
        ]

        back : AnyLooksUp items name from ⊎ T name from → AnyLooksUp new name from
        back (inl (bind, was, looks)) = (bind, (added bind).1 (inl was), looks)
        back (inr here) = let (bind, is, looks) = some name from here in (bind, (added bind).1 (inr is), looks)

  module _ (one : Stream) (from place : ℕ) (cursor : Cursor) (aim : Aim) (here : Step) where
    -- What a step looks up

    module _ (look_up : LookUp) (is : IsLookUpOf one from cursor aim here look_up) where
      abbrev Says : List ℕ → Library → Type 0
      Says = IsLookedUpIn (text_of image look_up) look_up.library

      abbrev own : Span
      own = is.1

      abbrev bytes : Span
      bytes = record { start = from + own.start; len = own.len - 1 }

      same_up : look_up ≡ record { name = bytes; library = looked_in one aim }
      same_up = is.5

      text : text_of image look_up ≡ part (from + own.start) (own.len - 1) image
      text = ap (λ (l : LookUp). text_of image l) same_up

      own_library : look_up.library ≡ looked_in one aim
      own_library = ap (λ (l : LookUp). l.library) same_up

      says_only : (bind : Bind) → StepBinds one from place cursor aim here bind → (n : List ℕ) (f : Library) → BindLooksUp image bind n f → Says n f
      says_only bind (segment, other, k, at, named, less, same) n f (reads, is_from) =
          let equal : other ≡ own = same_Some other own (sym named ∙ is.3) in
          let begins : bind.name.start ≡ from + own.start = ap (λ (b : Bind). b.name.start) same ∙ ap (λ (s : Span). from + s.start) equal in
          let long : bind.name.len - 1 ≡ own.len - 1 = ap (λ (b : Bind). b.name.len - 1) same ∙ ap (λ (s : Span). s.len - 1) equal in
          let looked : bind.library ≡ looked_in one aim = ap (λ (b : Bind). b.library) same in
          (sym reads ∙ (ap₂ (λ (s l : ℕ). part s l image) begins long ∙ sym text), subst (λ (o : Option Library). IsFrom o f) (looked ∙ sym own_library) is_from)

      abbrev bound : Bind
      bound = record {
        place = from + place;
        segment = is.0;
        offset = slot_offset cursor here 0;
        name = record { start = from + own.start; len = own.len };
        addend = aim.addend;
        library = looked_in one aim;
      }

      bound_by : StepBinds one from place cursor aim here bound
      bound_by = (is.0, own, 0, is.2, is.3, is.4, refl)

      says_some : (n : List ℕ) (f : Library) → Says n f → (bind : Bind) × StepBinds one from place cursor aim here bind × BindLooksUp image bind n f
      says_some n f (same, is_from) = (bound, bound_by, (sym text ∙ sym same, subst (λ (o : Option Library). IsFrom o f) own_library is_from))

      look_up_ends : (stream : List ℕ) → ((n : Span) → cursor.name ≡ Some n → end_of n ≤ length stream) → from + length stream ≤ length image → end_of look_up.name ≤ length image
      look_up_ends stream near inside =
          let whole = near own is.3 in
          let begins : look_up.name.start ≡ from + own.start = ap (λ (l : LookUp). l.name.start) same_up in
          let long : look_up.name.len ≡ own.len - 1 = ap (λ (l : LookUp). l.name.len) same_up in
          some_end own.len (whole, begins, long)
        where
          some_end : (len : ℕ) → (own.start + len ≤ length stream) × (look_up.name.start ≡ from + own.start) × (look_up.name.len ≡ len - 1) → end_of look_up.name ≤ length image
          some_end len (whole, begins, long) = omega (arith, whole, begins, long, inside)

    pub look_up_inside : (stream : List ℕ) → ((n : Span) → cursor.name ≡ Some n → end_of n ≤ length stream) → from + length stream ≤ length image → (next : Option LookUp)
        → MatchOption next (BindsNothing cursor here) (IsLookUpOf one from cursor aim here) → IfSome next (λ look_up. end_of look_up.name ≤ length image)
    look_up_inside stream near inside None nothing = tt
    look_up_inside stream near inside (Some look_up) is = look_up_ends look_up is stream near inside

    -- and what is noted then
    module _ {N : Type 0} (are : LookUps → N → Type 0) (items new : List Bind) (added : WereAdded (StepBinds one from place cursor aim here) items new) (old known : N) (last now : Option LookUp)
        (before looks : LookUps) (listed : WereListed (AnyLooksUp items) before looks) (is : are looks old) (last_listed : LastListed looks last) where
      abbrev Noted : Type 0
      Noted = (after : LookUps) × WereListed (AnyLooksUp new) before after × are after known × LastListed after now

      next_noted : (next : Option LookUp) → MatchOption next (BindsNothing cursor here) (IsLookUpOf one from cursor aim here) → IsNextNoted are image old known last next now → Noted
      next_noted None nothing (inr (look_up, wrong, now_is, noted)) = absurd (none-some look_up wrong)
      next_noted None nothing (inl (either, now_is, kept)) =
          let same = look_ups_added (StepBinds one from place cursor aim here) items new added (λ n f. ⊥) (λ bind binds n f looks_up. nothing_bound one from place cursor aim here nothing bind binds) (λ n f wrong. absurd wrong) in (
            looks,
            listed_same (AnyLooksUp items) (AnyLooksUp new) before looks (λ n f. (
              λ was. (same n f).1 (inl was),
              λ any. elim ((same n f).0 any) [ inl was ↦ was | inr wrong ↦ absurd wrong ],
            )) listed,
            subst (are looks) (sym kept) is,
            λ look_up some. last_listed look_up (sym now_is ∙ some),
          )
      next_noted (Some look_up) says (inl (inl none, now_is, kept)) = absurd (none-some look_up (sym none))
      next_noted (Some look_up) says (inl (inr is_last, now_is, kept)) =
          let same = look_ups_added (StepBinds one from place cursor aim here) items new added (Says look_up says) (says_only look_up says) (says_some look_up says) in
          let had = λ (n : List ℕ) (f : Library) (said : Says look_up says n f). subst (λ (m : List ℕ). Contains looks (m, f)) (sym said.0) (last_listed look_up (sym is_last) f said.1) in (
            looks,
            λ n f. (
              λ has. elim ((listed n f).0 has) [ inl was ↦ inl was | inr any ↦ inr ((same n f).1 (inl any)) ],
              λ either. elim either [
                | inl was ↦ (listed n f).1 (inl was)
                | inr any ↦ elim ((same n f).0 any) [ inl early ↦ (listed n f).1 (inr early) | inr said ↦ had n f said ]
              ],
            ),
            subst (are looks) (sym kept) is,
            λ other some. last_listed other (sym now_is ∙ some),
          )
      next_noted (Some look_up) says (inr (other, some, now_is, noted)) =
          let equal : other ≡ look_up = same_Some other look_up (sym some) in
          let same = look_ups_added (StepBinds one from place cursor aim here) items new added (Says look_up says) (says_only look_up says) (says_some look_up says) in
          let noted_here = subst (λ (l : LookUp). WereNoted are (IsLookedUpIn (text_of image l) l.library) old known) equal noted in
          let (after, after_listed, then) = noted_here looks is in (
            after,
            listed_then (AnyLooksUp items) (Says look_up says) (AnyLooksUp new) before looks after same listed after_listed,
            then,
            λ third is_third f is_from.
                let is_same : third ≡ look_up = same_Some third look_up (sym is_third ∙ now_is) in
                (after_listed (text_of image third) f).1 (inr (ap (λ (l : LookUp). text_of image l) is_same, subst (λ (l : LookUp). IsFrom l.library f) is_same is_from)),
          )

  -- the look-ups of a list to which nothing but binds with P was added
  all_added : (P : Bind → Type 0) (binds : List Bind) → WereAdded P [] binds → (name : List ℕ) (from : Library) → AnyLooksUp binds name from ↔ SomeLooksUp image P name from
  all_added P binds added name from = (
    λ (bind, has, looks). elim ((added bind).0 has) [ inl (k, less, at) ↦ absurd (omega (arith, less)) | inr is ↦ (bind, is, looks) ],
    λ (bind, is, looks). (bind, (added bind).1 (inr is), looks),
  )

  -- Where a walk has come

  module _ {N : Type 0} (are : LookUps → N → Type 0) (one : Stream) (from : ℕ) (stream : List ℕ) (old : N) where
    pub record IsWalked (place : ℕ) (cursor : Cursor) (aim : Aim) (notes : N) (last : Option LookUp) : Type 0 where
      pub binds : List Bind
      pub read : IsRead one from stream [] place cursor aim binds
      pub noted : (before : LookUps) → are before old → (after : LookUps) × WereListed (AnyLooksUp binds) before after × are after notes × LastListed after last

    pub walk_start : IsWalked 0 start no_aim old None
    walk_start = record {
      binds = [];
      read = read_start one from stream [];
      noted = λ before is. (before, listed_none (AnyLooksUp []) before (λ n f (bind, (k, less, at), looks). omega (arith, less)), is, λ look_up wrong. absurd (none-some look_up wrong));
    }

    module _ (place : ℕ) (cursor : Cursor) (aim : Aim) (notes : N) (last : Option LookUp) (is : IsWalked place cursor aim notes last) where
      ended : WereAdded (StreamBinds one from stream) [] is.binds → WereNoted are (SomeLooksUp image (StreamBinds one from stream)) old notes
      ended added before was =
          let (after, listed, now, last_listed) = is.noted before was in
          (after, listed_same (AnyLooksUp is.binds) (SomeLooksUp image (StreamBinds one from stream)) before after (all_added (StreamBinds one from stream) is.binds added) listed, now)

      pub walk_stuck : step_at (opcodes_of one) stream place ≡ None → WereNoted are (SomeLooksUp image (StreamBinds one from stream)) old notes
      walk_stuck none = ended (read_stuck one from stream [] place cursor aim is.binds is.read none)

      pub walk_all : length stream ≤ place → WereNoted are (SomeLooksUp image (StreamBinds one from stream)) old notes
      walk_all end = ended (read_all one from stream [] place cursor aim is.binds is.read end)

      pub walk_named : (n : Span) → cursor.name ≡ Some n → end_of n ≤ length stream
      walk_named = read_named one from stream [] place cursor aim is.binds is.read

      module _ (here : Step) (after : ℕ) (at : step_at (opcodes_of one) stream place ≡ Some (here, after)) where
        pub walk_more : (now : Option LookUp) (new : N) (next : Option LookUp) (next_cursor : Cursor) (next_aim : Aim)
            → MatchOption next (BindsNothing cursor here) (IsLookUpOf one from cursor aim here) → IsNextNoted are image notes new last next now
            → next_cursor ≡ moved cursor here → next_aim ≡ aimed aim here → IsWalked after next_cursor next_aim new now
        walk_more now new next next_cursor next_aim says noted goes turns =
            let (more, added) = added_step one from place cursor aim is.binds here in record {
              binds = more;
              read = read_more one from stream [] place cursor aim is.binds is.read here after at more next_cursor next_aim added goes turns;
              noted = λ before was.
                  let (looks, listed, then, last_listed) = is.noted before was in
                  next_noted one from place cursor aim here are is.binds more added notes new last now before looks listed then last_listed next says noted;
            }

        -- where the look-up needs memory, a bind looks a name up
        pub walk_has : (next : Option LookUp) → MatchOption next (BindsNothing cursor here) (IsLookUpOf one from cursor aim here) → (look_up : LookUp) → next ≡ Some look_up
            → (library : Library) → IsFrom look_up.library library → HasAny (SomeLooksUp image (StreamBinds one from stream))
        walk_has None says look_up wrong library is_from = absurd (none-some look_up wrong)
        walk_has (Some found) says look_up same library is_from =
            let equal : look_up ≡ found = same_Some look_up found (sym same) in
            let (bind, binds, looks) = says_some one from place cursor aim here found says (text_of image found) library (refl, subst (λ (l : LookUp). IsFrom l.library library) equal is_from) in
            (text_of image found, library, (bind, (place, binds_step one from stream [] place cursor aim is.binds is.read here after at bind binds), looks))

-- The streams of an image

-- binds of the weak stream name no library
weak_alone : (image : List ℕ) (command : ℕ) (bind : Bind) → BindsOf streams.WeakBind image command bind → bind.library ≡ None
unfolding BindsOf
weak_alone image command bind (offset, (before, next, after, are, at, (segment, name, k, set, named, less, is))) = ap (λ (b : Bind). b.library) is

module _ (image : List ℕ) (keeps : NothingBreaks (BreaksImage image None)) where
  pub no_opcodes : dyld_info image ≡ None → (name : List ℕ) (from : Library) → ¬ IsOpcodeLookUp image name from
  no_opcodes none name from (bind, is, looks) =
      let (command, some, here) = some_of (λ c. (BindsOf streams.Bind image c bind ⊎ BindsOf streams.WeakBind image c bind) ⊎ BindsOf streams.LazyBind image c bind) (dyld_info image) is in
      none-some command (sym none ∙ some)

  module _ (command : ℕ) (info : dyld_info image ≡ Some command) where
    abbrev pub LooksUpIn : Stream → List ℕ → Library → Type 0
    LooksUpIn one = SomeLooksUp image (BindsOf one image command)

    -- only two streams name libraries
    pub opcodes_whole : (name : List ℕ) (from : Library) → IsOpcodeLookUp image name from ↔ (LooksUpIn streams.Bind name from ⊎ LooksUpIn streams.LazyBind name from)
    opcodes_whole name from = (
      λ (bind, is, looks). elim ((is_bind image keeps command info bind).1 is) [
        | inr lazy ↦ inr (bind, lazy, looks)
        | inl early ↦ elim early [
          | inl plain ↦ inl (bind, plain, looks)
          | inr weak ↦ absurd (none-some from (sym (weak_alone image command bind weak) ∙ looks.1.0))
        ]
      ],
      λ either. elim either [
        | inl (bind, plain, looks) ↦ (bind, (is_bind image keeps command info bind).0 (inl (inl plain)), looks)
        | inr (bind, lazy, looks) ↦ (bind, (is_bind image keeps command info bind).0 (inr lazy), looks)
      ],
    )
