-- An image that breaks no rule asks a loader for harmless writes alone.
use Rattle.std.proofs.Common.{◌≡◌, ℕ, suc, zero, ◌+◌, ◌-◌, ◌≤◌, ◌<◌, List, [], ◌∷◌, ◌++◌, length, get_or, slice_get, Contains, Option, Some, None, true, refl, sym, ◌∙◌, subst, arith, inl, inr}
use Rattle.std.specs.Prelude.{slice_index}
use Rattle.std.proofs.Math.Nat.{mul-le-mul_right}
use Rattle.std.proofs.lemmas.Bool.{cases_Bool, cases_lt, cases_eq}
use Rattle.std.proofs.lemmas.List.{get_or-map, get_or_past, length-map, append-nil, append_assoc}
use Rattle.std.proofs.lemmas.List.Sums.{sum_by-append, sum_by-cons}
use Rattle.std.proofs.lemmas.Option.{slice_get-get_or}
use Rattle.macho_fields.specs.Field.{part}
use Rattle.macho_fields.specs.First.{IsUnbroken}
use Rattle.macho_fields.specs.Layers.{NothingBreaks}
use Rattle.macho_fields.specs.Rules as layout
use Rattle.macho_fields.specs.Segment.{all_segments, filesize}
use Rattle.macho_fields.specs.Symbol.{table_at}
use Rattle.macho_fields.specs.Universal.{slices_of, slice_bytes, OfEachImage}
use Rattle.macho_fields.specs.declared.rule.Rule.TheVariants as rule
use Rattle.macho_fields.proofs.Options.{some_of, of_some}
use Rattle.macho_rules.proofs.Searches.{mapped_has}
use Rattle.macho_rules.proofs.Profiles.{images_keep, layout_keeps}
use Rattle.macho_rules.proofs.Verdicts.{unbroken_image_sound}
use Rattle.macho_rules.specs.Profile.{NoFileRule}
use Rattle.macho_opcodes.specs.Cursor.{cursor_after, writes}
use Rattle.macho_linked.specs.Harmless.{all_streams, streams_of, IsStream, SaysAt, IsSlot, IsHarmless}
use Rattle.macho_opcodes.specs.Images.{Undecoded, NoLibrary, NoName, NoSlot, TooMany, InTable, InStream, InRebases, InBinds, InBindsOf, opcodes_of, fields_of}
use Rattle.macho_tables.specs.Places.{dyld_info}
use Rattle.macho_tables.specs.Limits.{room, rooms_of, budget_of, library_count}
use Rattle.macho_linked.specs.Rules.{BreaksImage, IsLinkedUnbroken}
use Rattle.macho_tables.specs.Segments.{is_writable}
use Rattle.macho_opcodes.specs.Steps.{step_at, AreStepsFrom, AreSteps}
use Rattle.macho_opcodes.specs.Streams.{pointers, EndsInRoom, reach}
use Rattle.macho_opcodes.specs.declared.step.Opcodes.{Opcodes}
use Rattle.macho_opcodes.specs.declared.step.Opcodes.TheVariants as opcodes
use Rattle.macho_opcodes.specs.declared.step.Step.{Step}
use Rattle.macho_opcodes.specs.declared.step.Step.TheVariants as step
use Rattle.macho_opcodes.specs.declared.streams.Stream.{Stream}
use Rattle.macho_opcodes.specs.declared.streams.Stream.TheVariants as streams
use Rattle.macho_spans.specs.declared.span.Span.{Span}
use Rattle.macho_tables.proofs.Memory.{never_both}
use Rattle.macho_linked.proofs.SafeTexts.{text_at_base}
use Rattle.macho_opcodes.proofs.StepChains.{steps_more}
use Rattle.macho_opcodes.proofs.Within.{step_within}

-- a segment whose room is not empty is there, and can be written
module _ (image : List ℕ) where
  -- the segment with an index, whose room is all of its bytes
  abbrev IsRoomy : ℕ → ℕ → Type 0
  IsRoomy i s = (slice_get (all_segments image) i ≡ Some s) × (is_writable image s ≡ true) × (slice_index (rooms_of image) i ≡ filesize image s)

  writable : (i s : ℕ) → 0 < slice_index (rooms_of image) i → slice_get (all_segments image) i ≡ Some s → slice_index (rooms_of image) i ≡ room image s → (r : ℕ) × IsRoomy i r
  writable i s some at is = elim (cases_Bool (is_writable image s)) [
    | inl t ↦ let whole : room image s ≡ filesize image s = rw t refl in (s, (at, t, is ∙ whole))
    | inr f ↦ let none : room image s ≡ 0 = rw f refl in absurd (omega (arith, some, is, none))
  ]

  room_there : (i : ℕ) → 0 < slice_index (rooms_of image) i → (s : ℕ) × IsRoomy i s
  room_there i some =
      elim (cases_lt i (length (all_segments image))) [
        | inl less ↦
            writable i (get_or (all_segments image) i 0) some (slice_get-get_or (all_segments image) i 0 less) (get_or-map (room image) (all_segments image) i 0 0 less)
        | inr past ↦
            let count : length (rooms_of image) ≡ length (all_segments image) = length-map (all_segments image) (room image) in
            let none : slice_index (rooms_of image) i ≡ 0 = get_or_past (rooms_of image) i 0 (omega (arith, count, past)) in
            absurd (omega (arith, none, some))
      ]

module _ (image : List ℕ) (kept : NothingBreaks (BreaksImage image)) where
  -- a rule that is broken in no stream of the image is not broken in the bytes of one
  module _ (Rule : List ℕ → Opcodes → List ℕ → ℕ → Type 0) (rebases : (place : ℕ) → InRebases image Rule place → ⊥) (binds : (place : ℕ) → InBinds image Rule place → ⊥) where
    found : (place command : ℕ) → dyld_info image ≡ Some command → (one : Stream) → InStream one image command Rule place → ⊥
    found place command info streams.Rebase here = rebases place (of_some (λ c. InStream streams.Rebase image c Rule place) (dyld_info image) command info here)
    found place command info streams.Bind here = binds place (of_some (λ c. InBindsOf image c Rule place) (dyld_info image) command info (inl (inl here)))
    found place command info streams.WeakBind here = binds place (of_some (λ c. InBindsOf image c Rule place) (dyld_info image) command info (inl (inr here)))
    found place command info streams.LazyBind here = binds place (of_some (λ c. InBindsOf image c Rule place) (dyld_info image) command info (inr here))

    in_none : (of : Opcodes) (stream : List ℕ) → IsStream image of stream → (offset : ℕ) → Rule image of stream offset → ⊥
    in_none of stream are offset broken =
        let (command, info, (table, has, is)) = some_of (λ c. (table : ℕ × ℕ × ℕ) × Contains (streams_of image c) (of, table) × (stream ≡ part table.0 table.1 image)) (dyld_info image) are.bounded in
        let (one, among, same) = mapped_has (λ (s : Stream). (opcodes_of s, table_at image command (fields_of s))) all_streams (of, table) has in
        let here : InTable of image table Rule (table.0 + offset) = (offset, refl, subst (λ (bytes : List ℕ). Rule image of bytes offset) is broken) in
        found (table.0 + offset) command info one (subst (λ (r : Opcodes × (ℕ × ℕ × ℕ)). InTable r.0 image r.1 Rule (table.0 + offset)) (sym same) here)

  -- a rule of binds
  module _ (Rule : List ℕ → Opcodes → List ℕ → ℕ → Type 0) (binds : (place : ℕ) → InBinds image Rule place → ⊥) where
    abbrev OfBinds : List ℕ → Opcodes → List ℕ → ℕ → Type 0
    OfBinds bytes of stream place = Rule bytes of stream place × ¬ (of ≡ opcodes.Rebase)

    no_rebase : (place : ℕ) → InRebases image OfBinds place → ⊥
    no_rebase place broken =
        let (command, info, (offset, at, has)) = some_of (λ c. InStream streams.Rebase image c OfBinds place) (dyld_info image) broken in has.1 refl

    plain : (one : Stream) (command place : ℕ) → InStream one image command OfBinds place → InStream one image command Rule place
    plain one command place (offset, at, has) = (offset, at, has.0)

    no_bind : (place : ℕ) → InBinds image OfBinds place → ⊥
    no_bind place broken =
        let (command, info, here) = some_of (λ c. InBindsOf image c OfBinds place) (dyld_info image) broken in
        binds place (of_some (λ c. InBindsOf image c Rule place) (dyld_info image) command info (elim here [
          | inl two ↦ elim two [ inl bind ↦ inl (inl (plain streams.Bind command place bind)) | inr weak ↦ inl (inr (plain streams.WeakBind command place weak)) ]
          | inr lazy ↦ inr (plain streams.LazyBind command place lazy)
        ]))

    in_no_bind : (of : Opcodes) (stream : List ℕ) → IsStream image of stream → ¬ (of ≡ opcodes.Rebase) → (offset : ℕ) → Rule image of stream offset → ⊥
    in_no_bind of stream are bind offset broken = in_none OfBinds no_rebase no_bind of stream are offset (broken, bind)

  module _ (of : Opcodes) (stream : List ℕ) (are : IsStream image of stream) where
    no_undecoded : (offset : ℕ) → Undecoded image of stream offset → ⊥
    no_undecoded = in_none Undecoded (λ place broken. kept rule.RebaseOpcode place broken) (λ place broken. kept rule.BindOpcode place broken) of stream are

    no_outside : (offset : ℕ) → NoSlot image of stream offset → ⊥
    no_outside = in_none NoSlot (λ place broken. kept rule.RebaseSlot place broken) (λ place broken. kept rule.BindSlot place broken) of stream are

    no_more : (offset : ℕ) → TooMany image of stream offset → ⊥
    no_more = in_none TooMany (λ place broken. kept rule.RebaseTotal place broken) (λ place broken. kept rule.BindTotal place broken) of stream are

    -- the bytes are opcodes up to their end
    abbrev Decoded : Type 0
    Decoded = (steps : List Step) × AreSteps of stream steps (length stream)

    -- the opcode at a place, and those after it
    decode_next : (place : ℕ) (before : List Step) → AreSteps of stream before place → place < length stream
        → ((here : Step) (after : ℕ) → step_at of stream place ≡ Some (here, after) → Decoded) → (read : Option (Step × ℕ)) → step_at of stream place ≡ read → Decoded
    decode_next place before chain less more None none = absurd (no_undecoded place ((before, chain), less, none))
    decode_next place before chain less more (Some (here, after)) at = more here after at

    decode : (fuel place : ℕ) (before : List Step) → AreSteps of stream before place → place ≤ length stream → length stream ≤ place + fuel → Decoded
    decode zero place before chain inside enough = (before, subst (AreSteps of stream before) (let same : place ≡ length stream = omega arith in same) chain)
    decode (suc fuel) place before chain inside enough = elim (cases_lt place (length stream)) [
      | inl less ↦
          decode_next place before chain less
          (λ here after at.
          let within = step_within of stream place here after at in
          decode fuel after (before ++ here ∷ []) (steps_more of stream before 0 place here after chain at) within.1 (omega (arith, within.0, enough)))
          (step_at of stream place) refl
      | inr past ↦ (before, subst (AreSteps of stream before) (let same : place ≡ length stream = omega arith in same) chain)
    ]

    -- an opcode that writes has a segment, and its last slot is in the room of it
    module _ (before : List Step) (count skip : ℕ) (place after : ℕ) (chain : AreSteps of stream before place) (at : step_at of stream place ≡ Some (step.Write count skip, after)) (some : 0 < count) where
      has_segment : (segment : Option ℕ) → (cursor_after before).segment ≡ segment → (s : ℕ) × ((cursor_after before).segment ≡ Some s)
      has_segment None none =
          absurd (no_outside place (before, step.Write count skip, after, chain, at, (some, subst (λ (s : Option ℕ). ¬ EndsInRoom (rooms_of image) s (reach (cursor_after before).offset count skip)) (sym none) (λ inside. inside))))
      has_segment (Some s) is = (s, is)

      ends_inside : (segment : ℕ) → (cursor_after before).segment ≡ Some segment → reach (cursor_after before).offset count skip ≤ slice_index (rooms_of image) segment
      ends_inside segment is = elim (cases_lt (slice_index (rooms_of image) segment) (reach (cursor_after before).offset count skip)) [
        | inl past ↦
            absurd (no_outside place (before, step.Write count skip, after, chain, at, (some, subst (λ (s : Option ℕ). ¬ EndsInRoom (rooms_of image) s (reach (cursor_after before).offset count skip)) (sym is) (λ inside. omega (arith, past, inside)))))
        | inr fits ↦ fits
      ]

      has_name : ¬ (of ≡ opcodes.Rebase) → (name : Option Span) → (cursor_after before).name ≡ name → (n : Span) × ((cursor_after before).name ≡ Some n)
      has_name bind None none =
          absurd (in_no_bind NoName (λ p broken. kept rule.BindSymbol p broken) of stream are bind place (before, step.Write count skip, after, chain, at, (some, none)))
      has_name bind (Some n) is = (n, is)

    library_there : ¬ (of ≡ opcodes.Rebase) → (place ordinal : ℕ) → SaysAt of stream place (step.SetLibrary ordinal) → ordinal ≤ library_count image
    library_there bind place ordinal (before, after, chain, at) = elim (cases_lt (library_count image) ordinal) [
      | inl past ↦ absurd (in_no_bind NoLibrary (λ p broken. kept rule.BindLibrary p broken) of stream are bind place (before, step.SetLibrary ordinal, after, chain, at, past))
      | inr fits ↦ fits
    ]

    slot_inside : (segment offset : ℕ) → IsSlot of stream segment offset
        → (s : ℕ) × (slice_get (all_segments image) segment ≡ Some s) × (is_writable image s ≡ true) × (offset + 8 ≤ filesize image s)
    slot_inside segment offset (before, count, skip, k, (place, after, chain, at), less, is, off) =
        let end = ends_inside before count skip place after chain at (omega arith) segment is in
        let (s, (there, can, size)) = room_there image segment (omega (arith, end)) in
        let most : k ≤ count - 1 = omega arith in
        let far = mul-le-mul_right (8 + skip) most in
        (s, there, can, omega (arith, end, size, off, far))

    -- no more pointers than the budget
    counted : (steps before : List Step) (place next : ℕ) → AreSteps of stream before place → AreStepsFrom of stream place steps next → pointers before ≤ budget_of image
        → pointers (before ++ steps) ≤ budget_of image
    counted [] before place next chain on few = subst (λ (all : List Step). pointers all ≤ budget_of image) (sym (append-nil before)) few
    counted (first ∷ steps) before place next chain (after, at, on) few =
        subst (λ (all : List Step). pointers all ≤ budget_of image) (append_assoc before (first ∷ []) steps)
        (counted steps (before ++ first ∷ []) after next (steps_more of stream before 0 place first after chain at) on more)
      where
        sum : pointers (before ++ first ∷ []) ≡ pointers before + writes first
        sum =
            let all = sum_by-append writes before (first ∷ []) in
            let one = sum_by-cons writes first [] in omega (arith, all, one)

        more : pointers (before ++ first ∷ []) ≤ budget_of image
        more = elim (cases_eq (writes first) 0) [
          | inl none ↦ omega (arith, sum, none, few)
          | inr some ↦ elim (cases_lt (budget_of image) (pointers before + writes first)) [
            | inl past ↦ absurd (no_more place (before, first, after, chain, at, (omega (arith, some), past)))
            | inr fits ↦ omega (arith, sum, fits)
          ]
        ]

  pub harmless_image : NothingBreaks (layout.BreaksImage image None) → IsHarmless image
  harmless_image unbroken = record {
    decoded = λ of stream are. decode of stream are (length stream) 0 [] refl (omega arith) (omega arith);
    set = λ of stream before count skip are (place, after, chain, at) some. has_segment of stream are before count skip place after chain at some (cursor_after before).segment refl;
    slots = λ of stream segment offset are slot. slot_inside of stream are segment offset slot;
    few = λ of stream before place are chain. counted of stream are before [] 0 place refl chain (omega arith);
    named = λ of stream before count skip are bind (place, after, chain, at) some. has_name of stream are before count skip place after chain at some bind (cursor_after before).name refl;
    libraries = λ of stream place ordinal are bind says. library_there of stream are bind place ordinal says;
    apart = λ s home address table has there can is_home here also.
        let sound = unbroken_image_sound image unbroken in
        let same = sound.one_segment s home address has there here also in
        never_both image home (subst (λ (n : ℕ). is_writable image n ≡ true) same can) is_home.1;
    text = text_at_base image kept;
  }

-- what holds of each image that breaks no rule holds of the images of such a file
pub of_images : (P : List ℕ → Type 0) → ((image : List ℕ) → NothingBreaks (BreaksImage image) → NothingBreaks (layout.BreaksImage image None) → P image)
    → (file : List ℕ) → IsUnbroken file → IsLinkedUnbroken file → OfEachImage P file
of_images P each file unbroken linked k d less image =
    each (slice_bytes file (get_or (slices_of file) k d)) (images_keep file NoFileRule BreaksImage linked k d less image) (layout_keeps file unbroken k d less image)
