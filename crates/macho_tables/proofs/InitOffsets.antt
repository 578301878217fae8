-- Where the offsets of initializers break their rule.
use Rattle.std.proofs.Common.{◌≡◌, ◌↔◌, ℕ, ◌+◌, ◌-◌, ◌*◌, ◌%◌, ◌^◌, ◌≤◌, ◌<◌, ◌⊎◌, List, [], ◌∷◌, map, length, Contains, Option, None, Some, false, refl, sym, ◌∙◌, subst, arith, inl, inr}
use Rattle.std.specs.Prelude.{flat_map, IsSomeAnd}
use Rattle.std.specs.Int.{div_ceil}
use Rattle.std.proofs.lemmas.Bool.{cases_lt, cases_eq}
use Rattle.std.proofs.lemmas.Grind.{div_ceil_times}
use Rattle.std.proofs.lemmas.List.Elements.{Contains-append_cases}
use Rattle.std.proofs.lemmas.Nat.{row_fits}
use Rattle.macho_fields.specs.FirstPlace.{IsLeastPlace}
use Rattle.macho_fields.specs.Image.{word, commands_of}
use Rattle.macho_fields.specs.Layers.{NothingBreaks}
use Rattle.macho_fields.specs.Rules.{BreaksImage}
use Rattle.macho_fields.specs.Segment.{all_segments, base_of, vmaddr, vmsize, fileoff, filesize, section_address, section_size, section_offset, section_flags, is_zero_fill, IsInFilePart, IsExecutable, RunsAt}
use Rattle.macho_fields.specs.declared.rule.Rule.TheVariants as rule
use Rattle.macho_fields.proofs.Decided.{not_not, both_or_not, le_or_not}
use Rattle.macho_fields.proofs.Lists.{none_in_nil, contains_first, contains_later, contains_mapped}
use Rattle.macho_image.specs.Segment.{SectionView, section_at, sections_with, sections_of}
use Rattle.macho_rules.proofs.Judged.{opened_commands}
use Rattle.macho_rules.proofs.Searches.{one_of}
use Rattle.macho_rules.proofs.SectionItems.{section_rule_breaks, with_segment}
use Rattle.macho_rules.proofs.Verdicts.{unbroken_opened}
use Rattle.macho_tables.specs.InitOffsets.{HasOffsets, IsCalled, IsBadOffset, BadOffset, BreaksInitOffset, offset_count, offset_place}
use Rattle.macho_tables.proofs.Items.{first_item}

-- The offsets of a section

-- each begins in it
pub offset_begins : (size k : ℕ) → k < div_ceil size 4 → k * 4 < size
offset_begins size k less =
    let least = (div_ceil_times size 4 (omega arith)).1 in
    let row = row_fits k 4 (div_ceil size 4) 4 less (omega arith) in
    omega (arith, least, row)

module _ (image : List ℕ) (section : ℕ) where
  pub first_bad_offset : (k : ℕ) → k < offset_count image section → IsBadOffset image section k → ((j : ℕ) → j < k → ¬ IsBadOffset image section j)
      → IsLeastPlace (BadOffset image section) (Some (offset_place image section k))
  first_bad_offset k less bad none = first_item (offset_place image section) (λ j i up. omega (arith, up)) (offset_count image section) (IsBadOffset image section) (Some k) (less, bad, none)

  -- one that is whole, and called
  pub good_offset : (start size k : ℕ) → start ≡ section_offset image section → size ≡ section_size image section → 4 ≤ size - k * 4 → IsCalled image (start + k * 4) → ¬ IsBadOffset image section k
  good_offset start size k from is fits called (inl cut) = omega (arith, is, fits, cut)
  good_offset start size k from is fits called (inr none) = none (subst (λ p. IsCalled image (p + k * 4)) from called)

  pub no_bad_offset : ((j : ℕ) → j < offset_count image section → ¬ IsBadOffset image section j) → IsLeastPlace (BadOffset image section) None
  no_bad_offset none = first_item (offset_place image section) (λ j i up. omega (arith, up)) (offset_count image section) (IsBadOffset image section) None none

-- Where the bytes of a section with offsets are

-- the segment of a section is one of the image
segment_among : (image segments : List ℕ) (pair : ℕ × ℕ) → Contains (flat_map (sections_with image) segments) pair → Contains segments pair.0
segment_among image [] pair has = absurd (none_in_nil pair has)
segment_among image (x ∷ xs) pair has = elim (Contains-append_cases (sections_with image x) (flat_map (sections_with image) xs) pair has) [
  | inl here ↦ subst (Contains (x ∷ xs)) (sym (with_segment image x pair here).0) (contains_first x xs)
  | inr later ↦ contains_later x pair.0 xs (segment_among image xs pair later)
]

module _ (image : List ℕ) (keeps : NothingBreaks (BreaksImage image None)) where
  in_part_or_not : (segment section : ℕ) → IsInFilePart image segment section ⊎ ¬ IsInFilePart image segment section
  in_part_or_not segment section =
      let past = section_address image section - vmaddr image segment in
      both_or_not (cases_eq (section_offset image section) (fileoff image segment + past)) (le_or_not (past + section_size image section) (filesize image segment))

  segment_inside : (segment : ℕ) → Contains (all_segments image) segment → 0 < filesize image segment → fileoff image segment + filesize image segment ≤ length image
  segment_inside segment has some = elim (cases_lt (length image) (fileoff image segment + filesize image segment)) [
    | inl past ↦ absurd (keeps rule.SegmentFile segment (inr (commands_of image, opened_commands image (unbroken_opened image keeps), (has, (some, past)))))
    | inr fits ↦ fits
  ]

  filled : (section : ℕ) → section_flags image section % 256 ≡ 0x16 → is_zero_fill image section ≡ false
  filled section is = rw is refl

  pub offsets_inside : (pair : ℕ × ℕ) → Contains (sections_of image (commands_of image)) pair → HasOffsets image pair.0 pair.1 → 0 < section_size image pair.1
      → section_offset image pair.1 + section_size image pair.1 ≤ length image
  offsets_inside pair among (type, mapped) some =
      let opened = unbroken_opened image keeps in
      let all : List SectionView = map (section_at image) (sections_of image (commands_of image)) in
      let part : IsInFilePart image pair.0 pair.1 = not_not (in_part_or_not pair.0 pair.1) (λ out. keeps rule.SectionFile pair.1 (inr (
        commands_of image,
        opened_commands image opened,
        (section_rule_breaks image all opened refl rule.SectionFile (λ place. (λ x. x, λ x. x))).broken (section_at image pair)
            (contains_mapped (section_at image) (sections_of image (commands_of image)) pair among) (some, filled pair.1 type, inl (mapped, out)),
      ))) in
      let at = part.0 in
      let within = part.1 in
      let inside = segment_inside pair.0 (segment_among image (all_segments image) pair among) (omega (arith, within, some)) in
      omega (arith, at, within, inside)

  -- the rule is broken at places in the image
  pub init_offset_near : (place : ℕ) → BreaksInitOffset image place → place ≤ length image
  init_offset_near place any =
      let (pair, among, (has, (k, less, at, bad))) = one_of (λ section. HasOffsets image section.0 section.1 × BadOffset image section.1 place) (sections_of image (commands_of image)) any in
      let begins = offset_begins (section_size image pair.1) k less in
      let inside = offsets_inside pair among has (omega (arith, begins)) in
      omega (arith, at, begins, inside)

  -- what is executable has an address of 64 bits
  pub none_past : (address : ℕ) → 2 ^ 64 ≤ address → ¬ IsExecutable image (commands_of image) address
  none_past address past any =
      let (segment, has, (supplied, _, _)) = one_of (RunsAt image address) (all_segments image) any in
      elim (cases_lt (2 ^ 64) (vmaddr image segment + vmsize image segment)) [
        | inl beyond ↦ keeps rule.SegmentAddress segment (inr (commands_of image, opened_commands image (unbroken_opened image keeps), (has, beyond)))
        | inr fits ↦ (let high = supplied.1 in omega (arith, past, high, fits))
      ]

-- Whether an offset leads to an executable byte

module _ (image : List ℕ) (place : ℕ) where
  pub no_base : (found : Option ℕ) → found ≡ base_of image (commands_of image) → found ≡ None → ¬ IsCalled image place
  no_base found is none called = subst (λ o. IsSomeAnd o (λ base. IsExecutable image (commands_of image) (base + word image place))) (sym is ∙ none) called

  pub at_base : (found : Option ℕ) → found ≡ base_of image (commands_of image) → (base : ℕ) → found ≡ Some base → IsExecutable image (commands_of image) (base + word image place) ↔ IsCalled image place
  at_base found is base some =
      let same : Some base ≡ base_of image (commands_of image) = sym some ∙ is in (
        λ runs. subst (λ o. IsSomeAnd o (λ b. IsExecutable image (commands_of image) (b + word image place))) same runs,
        λ called. subst (λ o. IsSomeAnd o (λ b. IsExecutable image (commands_of image) (b + word image place))) (sym same) called,
      )
