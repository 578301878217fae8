-- What one walk over the segments of an image finds of their file parts.
use Rattle.std.proofs.Common.{◌≡◌, ℕ, ◌+◌, ◌≤◌, ◌<◌, List, length, map, get_or, slice_get, Contains, Option, None, Some, sym, ap, ◌∙◌, subst, arith, inl, inr}
use Rattle.std.proofs.lemmas.Bool.{cases_lt}
use Rattle.std.proofs.lemmas.List.{get_or_default, get_or-map, length-map}
use Rattle.std.proofs.lemmas.Option.{get_or_from_slice_get}
use Rattle.std.proofs.lemmas.Simd.{map-map}
use Rattle.macho_fields.specs.FirstPlace.{IsLeastPlace}
use Rattle.macho_fields.specs.Image.{commands_of, command_size}
use Rattle.macho_spans.specs.Overlap.{span_at, SharesEarlier, IsLeastSharing}
use Rattle.macho_spans.specs.Span.{Holds}
use Rattle.macho_spans.specs.SpanOrder.{spans_in, tags_in}
use Rattle.macho_spans.specs.declared.span.Span.{Span}
use Rattle.macho_fields.proofs.Parts.{command_good, with_cmd_among}
use Rattle.macho_fields.specs.declared.header.loader.TheConstants as loader
use Rattle.macho_image.specs.Opened.{IsOpened}
use Rattle.macho_rules.proofs.Searches.{ordered_at}
use Rattle.macho_rules.proofs.SegmentItems.{segments_spread}
use Rattle.macho_image.proofs.OpenedWalk.{opened_commands}
use Rattle.macho_strict.specs.Gaps.{IsStray}
use Rattle.macho_strict.specs.Passed.{AreCounted}
use Rattle.macho_strict.specs.Rules.{BreaksStrictImage, SharesFilePart, all_segments}
use Rattle.macho_strict.specs.Sharing.{file_part, all_parts, tagged_parts, IsFirstSharing}
use Rattle.macho_strict.specs.Verdict.{file_parts}
use Rattle.macho_strict.specs.declared.elements.Element.{Element}
use Rattle.macho_strict.specs.declared.gaps.CountedGaps.{CountedGaps}
use Rattle.macho_strict.specs.declared.gaps.Wanted.TheVariants as wanted
use Rattle.macho_fields.specs.declared.rule.Rule.TheVariants as rule
use Rattle.macho_strict.proofs.Passed.{least_same, all_of_free, free_of_all}
use Rattle.macho_strict.proofs.Sharings.{none_sharing, spans_tagged, tags_tagged}

abbrev span_of : Element → Span
span_of part = part.span

abbrev no_span : Span
no_span = record { start = 0; len = 0 }

-- All file parts of an image

module _ (image : List ℕ) where
  abbrev segments : List ℕ
  segments = all_segments image

  abbrev part_of : ℕ → Span
  part_of segment = (file_part image segment).span

  pub parts_are : map span_of (all_parts image) ≡ file_parts image
  parts_are = map-map span_of (file_part image) segments

  pub counted_parts : (counted : CountedGaps) → AreCounted wanted.NonZero image (map span_of (all_parts image)) counted → AreCounted wanted.NonZero image (file_parts image) counted
  counted_parts counted = subst (λ (spans : List Span). AreCounted wanted.NonZero image spans counted) parts_are

  -- none shares a place with an earlier one
  pub apart_parts : ((j : ℕ) → ¬ SharesEarlier (file_parts image) j) → IsFirstSharing (tagged_parts image) None
  apart_parts apart = none_sharing (all_parts image) (file_parts image) (sym parts_are) apart

  spans_are : spans_in (tagged_parts image) ≡ file_parts image
  spans_are = spans_tagged (all_parts image) ∙ parts_are

  tags_are : tags_in (tagged_parts image) ≡ map (λ segment. segment) segments
  tags_are = tags_tagged (all_parts image) ∙ map-map (λ (e : Element). e.described) (file_part image) segments

  -- The rule stray-byte

  pub least_stray : (found : Option ℕ) → IsLeastPlace (IsStray wanted.NonZero image (file_parts image)) found → IsLeastPlace (BreaksStrictImage image rule.StrayByte) found
  least_stray found least = least_same (IsStray wanted.NonZero image (file_parts image)) (BreaksStrictImage image rule.StrayByte) to from found least
    where
      to : (p : ℕ) → IsStray wanted.NonZero image (file_parts image) p → BreaksStrictImage image rule.StrayByte p
      to p (is, free) = (is, all_of_free part_of segments p free)

      from : (p : ℕ) → BreaksStrictImage image rule.StrayByte p → IsStray wanted.NonZero image (file_parts image) p
      from p (is, none) = (is, free_of_all part_of segments 0 p none)

  -- The rule segment-file-overlap

  part_at : (k : ℕ) → k < length segments → span_at (file_parts image) k ≡ part_of (get_or segments k 0)
  part_at k less = get_or-map part_of segments k 0 no_span less

  module _ (opened : IsOpened image) where
    rises : (i j : ℕ) → i < j → j < length segments → get_or segments i 0 < get_or segments j 0
    rises i j less within =
        let has : Contains segments (get_or segments i 0) = (i, omega arith, get_or_default segments i (get_or segments i 0) 0 (omega arith)) in
        let good = command_good image (commands_of image) (get_or segments i 0) (opened_commands image opened) (with_cmd_among image (commands_of image) loader.LC_SEGMENT_64 (get_or segments i 0) has) in
        let apart = ordered_at (λ a b. a + command_size image a ≤ b) segments 0 i j (segments_spread image opened) less within in
        omega (arith, apart, good.least)

    by_index : (k : ℕ) → SharesEarlier (file_parts image) k → (k < length segments) × BreaksStrictImage image rule.SegmentFileOverlap (get_or segments k 0)
    by_index k (within, (i, less, (place, first, second))) =
        let here : k < length segments = omega (arith, within, length-map segments part_of) in
        let has : Contains segments (get_or segments k 0) = (k, here, get_or_default segments k (get_or segments k 0) 0 here) in
        let earlier : i < length segments = omega arith in
        let shares : SharesFilePart image (get_or segments k 0) = (
          i,
          get_or segments i 0,
          earlier,
          get_or_default segments i (get_or segments i 0) 0 earlier,
          (rises i k less here, (place, subst (λ s. Holds s place) (part_at i earlier) first, subst (λ s. Holds s place) (part_at k here) second)),
        ) in
        (here, (has, shares))

    pub parts_apart : ((p : ℕ) → ¬ BreaksStrictImage image rule.SegmentFileOverlap p) → (j : ℕ) → ¬ SharesEarlier (file_parts image) j
    parts_apart keeps j shares = keeps (get_or segments j 0) (by_index j shares).1

    index_of : (q : ℕ) → BreaksStrictImage image rule.SegmentFileOverlap q → (k : ℕ) × SharesEarlier (file_parts image) k × (get_or segments k 0 ≡ q)
    index_of q ((k, within, at), (i, e, below, at_i, (earlier, (place, first, second)))) =
        let is : get_or segments k 0 ≡ q = get_or_default segments k 0 q within ∙ at in
        let is_i : get_or segments i 0 ≡ e = get_or_default segments i 0 e below ∙ at_i in
        let before : i < k = elim (cases_lt i k) [
          | inl less ↦ less
          | inr most ↦ absurd (not_before i k q e is is_i earlier below most)
        ] in (
          k,
          (
            omega (arith, within, length-map segments part_of),
            (
              i,
              before,
              (
                place,
                subst (λ s. Holds s place) (sym (part_at i below ∙ ap part_of is_i)) first,
                subst (λ s. Holds s place) (sym (part_at k within ∙ ap part_of is)) second,
              ),
            ),
          ),
          is,
        )
      where
        not_before : (i k q e : ℕ) → get_or segments k 0 ≡ q → get_or segments i 0 ≡ e → e < q → i < length segments → k ≤ i → ⊥
        not_before i k q e is is_i earlier below most = elim (cases_lt k i) [
          | inl less ↦ let rise = rises k i less below in absurd (omega (arith, rise, is, is_i))
          | inr same ↦ let one : k ≡ i = omega arith in absurd (omega (arith, is, is_i, ap (λ n. get_or segments n 0) one))
        ]

    pub least_overlap : (found : Option ℕ) → IsFirstSharing (tagged_parts image) found → IsLeastPlace (BreaksStrictImage image rule.SegmentFileOverlap) found
    least_overlap None none = λ q broken. let (k, shares, is) = index_of q broken in none k (subst (λ (spans : List Span). SharesEarlier spans k) (sym spans_are) shares)
    least_overlap (Some tag) (j, least, at) =
        let (shares, first) = subst (λ (spans : List Span). IsLeastSharing spans j) spans_are least in
        let (within, broken) = by_index j shares in
        let here : get_or segments j 0 ≡ tag = tag_is j tag within at in
        (subst (BreaksStrictImage image rule.SegmentFileOverlap) here broken, λ q other. let (k, also, is) = index_of q other in low j tag here first within k also q is)
      where
        tag_is : (j tag : ℕ) → j < length segments → slice_get (tags_in (tagged_parts image)) j ≡ Some tag → get_or segments j 0 ≡ tag
        tag_is j tag within at =
            sym (get_or-map (λ (s : ℕ). s) segments j 0 0 within) ∙ (ap (λ tags. get_or tags j 0) (sym tags_are) ∙ get_or_from_slice_get (tags_in (tagged_parts image)) j tag 0 at)

        low : (j tag : ℕ) → get_or segments j 0 ≡ tag → ((k : ℕ) → k < j → ¬ SharesEarlier (file_parts image) k) → j < length segments → (k : ℕ) → SharesEarlier (file_parts image) k → (q : ℕ) → get_or segments k 0 ≡ q → tag ≤ q
        low j tag here first within k also q is = elim (cases_lt k j) [
          | inl less ↦ absurd (first k less also)
          | inr most ↦
              elim (cases_lt j k) [
                | inl above ↦ let rise = rises j k above (let inside = also.0 in omega (arith, inside, length-map segments part_of)) in omega (arith, rise, here, is)
                | inr same ↦ let one : j ≡ k = omega arith in omega (arith, here, is, ap (λ n. get_or segments n 0) one)
              ]
        ]
