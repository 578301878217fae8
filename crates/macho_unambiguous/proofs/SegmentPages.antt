-- No address is in the pages of two segments, and the bytes between the end of a segment and the end of its page are zero.
use Rattle.std.proofs.Common.{◌≡◌, ℕ, ◌+◌, ◌%◌, ◌≤◌, ◌<◌, List, length, get_or, Contains, None, sym, ap, arith, inl, inr}
use Rattle.std.proofs.lemmas.Bool.{cases_lt, cases_order}
use Rattle.std.proofs.lemmas.List.Elements.{Contains-get_or}
use Rattle.macho_fields.specs.Image.{cpu_type, commands_of}
use Rattle.macho_fields.specs.Layers.{NothingBreaks}
use Rattle.macho_fields.specs.Loader.{IsSoundImage}
use Rattle.macho_fields.specs.NonZero.{IsNonZero}
use Rattle.macho_fields.specs.Rules.{BreaksImage}
use Rattle.macho_fields.specs.Segment.{all_segments, vmaddr, vmsize, fileoff, filesize, Supplies}
use Rattle.macho_fields.specs.declared.rule.Rule.TheVariants as rule
use Rattle.macho_rules.proofs.Judged.{opened_commands}
use Rattle.macho_rules.proofs.Verdicts.{unbroken_opened, unbroken_image_sound}
use Rattle.macho_strict.specs.Rules.{BreaksStrictImage, IsByteOfSegment}
use Rattle.macho_readers.specs.PageModels.{page_ceiling, HasPageOf}
use Rattle.macho_readers.specs.Pages.{page_size}
use Rattle.macho_readers.specs.Segments.{BreaksSegmentPage}
use Rattle.macho_unambiguous.proofs.Cases.{same_number}
use Rattle.macho_unambiguous.proofs.FileParts.{one_part}
use Rattle.macho_unambiguous.proofs.Rounding.{ceiling_above, ceiling_from, ceiling_least, floor_even}

module _ (image : List ℕ) (keeps : NothingBreaks (BreaksImage image None)) (even : (place : ℕ) → ¬ BreaksSegmentPage image place) where
  abbrev cputype : ℕ
  cputype = cpu_type image

  abbrev page : ℕ
  page = page_size cputype

  abbrev Has : ℕ → Type 0
  Has segment = Contains (all_segments image) segment

  sound : IsSoundImage image (commands_of image)
  sound = unbroken_image_sound image keeps

  pub even_memory : (segment : ℕ) → Has segment → 0 < vmsize image segment → vmaddr image segment % page ≡ 0
  even_memory segment has mapped = same_number _ _ (λ other. even segment (has, inl (mapped, other)))

  pub even_bytes : (segment : ℕ) → Has segment → 0 < filesize image segment → fileoff image segment % page ≡ 0
  even_bytes segment has some = same_number _ _ (λ other. even segment (has, inr (some, other)))

  pub shorter : (segment : ℕ) → Has segment → 0 < vmsize image segment → filesize image segment ≤ vmsize image segment
  shorter segment has mapped = elim (cases_lt (vmsize image segment) (filesize image segment)) [
    | inl longer ↦ absurd (keeps rule.SegmentSize segment (inr (commands_of image, opened_commands image (unbroken_opened image keeps), (has, (mapped, longer)))))
    | inr most ↦ most
  ]

  pub inside : (segment : ℕ) → Has segment → 0 < filesize image segment → fileoff image segment + filesize image segment ≤ length image
  inside segment has some = elim (cases_lt (length image) (fileoff image segment + filesize image segment)) [
    | inl past ↦ absurd (keeps rule.SegmentFile segment (inr (commands_of image, opened_commands image (unbroken_opened image keeps), (has, (some, past)))))
    | inr most ↦ most
  ]

  -- an address that a segment supplies is in its pages
  pub supplied_page : (address segment : ℕ) → Has segment → Supplies image segment address → HasPageOf page image address segment
  supplied_page address segment has (low, high) =
      let mapped : 0 < vmsize image segment = omega (arith, low, high) in
      let floor = floor_even cputype (vmaddr image segment) (even_memory segment has mapped) in
      let above = ceiling_above cputype (vmaddr image segment + vmsize image segment) in
      (mapped, omega (arith, floor, low), omega (arith, above, high))

  later_page : (address a b : ℕ) → Has a → Has b → HasPageOf page image address a → HasPageOf page image address b → vmaddr image a < vmaddr image b → a ≡ b
  later_page address a b has_a has_b (mapped_a, low_a, high_a) (mapped_b, low_b, high_b) less = elim (cases_lt (vmaddr image b) (vmaddr image a + vmsize image a)) [
    | inl within ↦ sound.one_segment a b (vmaddr image b) has_a has_b (omega (arith, less), within) (omega arith, omega (arith, mapped_b))
    | inr past ↦ absurd (
        let floor = floor_even cputype (vmaddr image b) (even_memory b has_b mapped_b) in
        let least = ceiling_least cputype (vmaddr image a + vmsize image a) (vmaddr image b) (even_memory b has_b mapped_b) past in
        omega (arith, floor, least, low_b, high_a)
        )
  ]

  -- an address is in the pages of one segment
  pub one_page : (address a b : ℕ) → Has a → Has b → HasPageOf page image address a → HasPageOf page image address b → a ≡ b
  one_page address a b has_a has_b in_a in_b = elim (cases_order (vmaddr image a) (vmaddr image b)) [
    | inl same ↦
        let mapped_a = in_a.0 in let mapped_b = in_b.0 in
        sound.one_segment a b (vmaddr image a) has_a has_b (omega arith, omega (arith, mapped_a)) (omega (arith, same), omega (arith, same, mapped_b))
    | inr (inl less) ↦ later_page address a b has_a has_b in_a in_b less
    | inr (inr less) ↦ sym (later_page address b a has_b has_a in_b in_a less)
  ]

  module _ (strict : NothingBreaks (BreaksStrictImage image)) where
    module _ (segment : ℕ) (has : Has segment) (some : 0 < filesize image segment) (place : ℕ)
        (past : fileoff image segment + filesize image segment ≤ place) (near : place < fileoff image segment + page_ceiling page (filesize image segment)) where
      -- the rest of its last page is in no other segment
      no_other : (other : ℕ) → Has other → ¬ IsByteOfSegment image other place
      no_other other has_other (low, high) = elim (cases_lt (fileoff image segment) (fileoff image other)) [
        | inr before ↦
            let same = one_part image (strict rule.SegmentFileOverlap) segment other (fileoff image segment) has has_other (omega arith, omega (arith, some)) (before, omega (arith, past, high)) in
            let end : fileoff image segment + filesize image segment ≡ fileoff image other + filesize image other = ap (λ s. fileoff image s + filesize image s) same in
            omega (arith, past, high, end)
        | inl after ↦ elim (cases_lt (fileoff image other) (fileoff image segment + filesize image segment)) [
          | inl within ↦
              let same = one_part image (strict rule.SegmentFileOverlap) segment other (fileoff image other) has has_other (omega (arith, after), within) (omega arith, omega (arith, low, high)) in
              let start : fileoff image segment ≡ fileoff image other = ap (fileoff image) same in
              omega (arith, start, after)
          | inr beyond ↦
              let least = ceiling_least cputype (fileoff image segment + filesize image segment) (fileoff image other) (even_bytes other has_other (omega (arith, low, high))) beyond in
              let from = ceiling_from cputype (fileoff image segment) (filesize image segment) (even_bytes segment has some) in
              omega (arith, least, from, low, near)
        ]
      ]

      -- so its bytes are zero
      pub zero_padding : ¬ IsNonZero image place
      zero_padding is = strict rule.StrayByte place (is, λ k d less. no_other (get_or (all_segments image) k d) (Contains-get_or (all_segments image) k d less))
