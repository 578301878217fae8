-- Segments that share addresses, by their index among the mapped ones.
use Rattle.std.proofs.Common.{◌≡◌, ℕ, ◌≤◌, ◌<◌, List, [], ◌∷◌, length, map, get_or, Contains, slice_get, Some, None, refl, sym, ap, ◌∙◌, subst, arith, inl, inr}
use Rattle.std.proofs.lemmas.Bool.{cases_lt, cases_eq}
use Rattle.std.proofs.lemmas.List.{get_or_default, get_or-map, length-map}
use Rattle.std.proofs.lemmas.List.Elements.{Contains-get_or}
use Rattle.std.proofs.lemmas.Option.{get_or_from_slice_get}
use Rattle.macho_fields.specs.Image.{commands_of}
use Rattle.macho_spans.specs.Overlap.{SharesEarlier, IsLeastSharing, span_at, IsAscending, IsDescending, IsUnordered}
use Rattle.macho_fields.specs.Segment.{segments_of, Supplies, OverlapsEarlier}
use Rattle.macho_spans.specs.Span.{Shares}
use Rattle.macho_spans.specs.SpanOrder.{IsSharingOf, spans_in, tags_in}
use Rattle.macho_spans.specs.declared.span_order.Sharing.TheVariants as sharing
use Rattle.macho_fields.specs.declared.rule.Rule.TheVariants as rule
use Rattle.macho_spans.specs.declared.span.Span.{Span}
use Rattle.macho_image.specs.Opened.{IsOpened}
use Rattle.macho_rules.specs.Check.{KeptBefore}
use Rattle.macho_rules.specs.Mapped.{mapped_segments, memory_at, mapped_memory, tagged_memory}
use Rattle.macho_rules.specs.Verdict.{HasMapped, ImageTakesMemory}
use Rattle.macho_rules.proofs.Mapped.{mapped_rise, mapped_among, among_mapped, mapped_some}
use Rattle.macho_rules.proofs.Searches.{any_of, ordered_at}

module _ (image : List ℕ) (opened : IsOpened image) where
  abbrev mapped : List ℕ
  mapped = mapped_segments image

  abbrev spans : List Span
  spans = map (memory_at image) (mapped_segments image)

  -- a segment with an address in common with an earlier one
  abbrev pub IsOverlapping : ℕ → Type 0
  IsOverlapping p = Contains (segments_of image (commands_of image)) p × OverlapsEarlier image (commands_of image) p

  span_is : (i : ℕ) → i < length mapped → span_at spans i ≡ memory_at image (get_or mapped i 0)
  span_is i less = get_or-map (memory_at image) mapped i 0 (record { start = 0; len = 0 }) less

  rises : (i j : ℕ) → i < j → j < length mapped → get_or mapped i 0 < get_or mapped j 0
  rises i j less within = ordered_at (λ a b. a < b) mapped 0 i j (mapped_rise image opened) less within

  -- a segment that supplies an address has an index
  index_of : (p address : ℕ) → Contains (segments_of image (commands_of image)) p → Supplies image p address → (i : ℕ) × (i < length mapped) × (get_or mapped i 0 ≡ p)
  index_of p address has supplied =
      let (i, less, at) = among_mapped image p has (omega (arith, supplied.0, supplied.1)) in
      (i, less, get_or_default mapped i 0 p less ∙ at)

  at_index : (p : ℕ) → IsOverlapping p → (j : ℕ) × (j < length mapped) × (get_or mapped j 0 ≡ p) × SharesEarlier spans j
  at_index p (has, (k, e, less, at, (earlier, (address, supplied, also)))) = (j, within, is, (omega (arith, within, length-map mapped (memory_at image)), (i, before, both)))
    where
      one : (i : ℕ) × (i < length mapped) × (get_or mapped i 0 ≡ e)
      one = index_of e address (k, less, at) supplied

      other : (j : ℕ) × (j < length mapped) × (get_or mapped j 0 ≡ p)
      other = index_of p address has also

      i : ℕ
      i = one.0

      j : ℕ
      j = other.0

      within : j < length mapped
      within = other.1

      is : get_or mapped j 0 ≡ p
      is = other.2

      before : i < j
      before = elim (cases_lt i j) [
        | inl less ↦ less
        | inr most ↦ elim (cases_eq i j) [
          | inl same ↦ let e_is_p = sym one.2 ∙ (ap (λ n. get_or mapped n 0) same ∙ is) in absurd (omega (arith, earlier, e_is_p))
          | inr apart ↦ let wrong = rises j i (omega (arith, most, apart)) one.1 in absurd (omega (arith, wrong, earlier, one.2, is))
        ]
      ]

      both : Shares (span_at spans i) (span_at spans j)
      both = rw (span_is i one.1, span_is j within, one.2, is) (address, supplied, also)

  of_index : (j : ℕ) → SharesEarlier spans j → IsOverlapping (get_or mapped j 0)
  of_index j (inside, (i, less, shares)) =
      let within : j < length mapped = omega (arith, inside, length-map mapped (memory_at image)) in
      let here : Shares (memory_at image (get_or mapped i 0)) (memory_at image (get_or mapped j 0)) = rw (span_is i (omega (arith, within)), span_is j within) at shares in (
        mapped_among image _ (Contains-get_or mapped j 0 within),
        any_of _ _ (get_or mapped i 0) (mapped_among image _ (Contains-get_or mapped i 0 (omega (arith, within)))) (rises i j less within, here),
      )

  -- the first span that shares a place with an earlier one belongs to the first such segment
  pub least_overlapping : (j p : ℕ) → slice_get (mapped_segments image) j ≡ Some p → (all : List Span) → all ≡ map (memory_at image) (mapped_segments image) → IsLeastSharing all j
      → IsOverlapping p × ((q : ℕ) → IsOverlapping q → p ≤ q)
  least_overlapping j p at all are given = (subst IsOverlapping is (of_index j sharing.0), λ q broken. least q broken)
    where
      sharing : IsLeastSharing spans j
      sharing = subst (λ those. IsLeastSharing those j) are given

      is : get_or mapped j 0 ≡ p
      is = get_or_from_slice_get mapped j p 0 at

      least : (q : ℕ) → IsOverlapping q → p ≤ q
      least q broken =
          let (k, within, here, shares) = at_index q broken in
          elim (cases_lt k j) [
            | inl below ↦ absurd (sharing.1 k below shares)
            | inr most ↦ elim (cases_eq j k) [
              | inl same ↦ let one = ap (λ n. get_or mapped n 0) same in omega (arith, is, here, one)
              | inr apart ↦ let above = rises j k (omega (arith, most, apart)) within in omega (arith, is, here, above)
            ]
          ]

  -- where no span does, no segment does
  pub none_overlapping : (all : List Span) → all ≡ map (memory_at image) (mapped_segments image) → ((j : ℕ) → ¬ SharesEarlier all j) → (p : ℕ) → ¬ IsOverlapping p
  none_overlapping all are none p broken =
      let (j, within, here, shares) = at_index p broken in
      none j (subst (λ those. SharesEarlier those j) (sym are) shares)

  -- a span that shares a place with an earlier one has its segment
  pub overlapping_index : (j : ℕ) (all : List Span) → all ≡ map (memory_at image) (mapped_segments image) → IsLeastSharing all j → j < length (mapped_segments image)
  overlapping_index j all are given = let sharing = subst (λ those. IsLeastSharing those j) are given in omega (arith, sharing.0.0, length-map mapped (memory_at image))

  -- What the order of the mapped segments shows

  spans_tagged : spans_in (tagged_memory image) ≡ mapped_memory image
  spans_tagged = spans_of (mapped_segments image)
    where
      spans_of : (ps : List ℕ) → map (λ (pair : Span × ℕ). pair.0) (map (λ p. (memory_at image p, p)) ps) ≡ map (memory_at image) ps
      spans_of [] = refl
      spans_of (p ∷ ps) = ap (λ rest. memory_at image p ∷ rest) (spans_of ps)

  tags_tagged : tags_in (tagged_memory image) ≡ mapped_segments image
  tags_tagged = tags_of (mapped_segments image)
    where
      tags_of : (ps : List ℕ) → map (λ (pair : Span × ℕ). pair.1) (map (λ p. (memory_at image p, p)) ps) ≡ ps
      tags_of [] = refl
      tags_of (p ∷ ps) = ap (λ rest. p ∷ rest) (tags_of ps)

  pub none_shown : IsSharingOf (tagged_memory image) sharing.None → (p : ℕ) → ¬ IsOverlapping p
  none_shown none = none_overlapping (spans_in (tagged_memory image)) spans_tagged none

  pub first_shown : (place : ℕ) → IsSharingOf (tagged_memory image) (sharing.First place) → IsOverlapping place × ((q : ℕ) → IsOverlapping q → place ≤ q)
  first_shown place (j, least, at) = least_overlapping j place (subst (λ ps. slice_get ps j ≡ Some place) tags_tagged at) (spans_in (tagged_memory image)) spans_tagged least

  pub unordered_shown : IsSharingOf (tagged_memory image) sharing.Unknown → IsUnordered (mapped_memory image)
  unordered_shown (up, down, mixed) = subst (λ all. (¬ IsAscending all) × (¬ IsDescending all)) spans_tagged (up, down)

-- no spans ascend, so some segment is mapped where the mapped ones do not
unordered_some : (image : List ℕ) → IsUnordered (mapped_memory image) → HasMapped image
unordered_some image (not_ascending, _) = elim (cases_lt 0 (length (mapped_segments image))) [
  | inl more ↦ mapped_some image more
  | inr none ↦ absurd (not_ascending (ascend_none (mapped_memory image) (omega (arith, none, length-map (mapped_segments image) (memory_at image)))))
]
  where
    ascend_none : (all : List Span) → length all ≡ 0 → IsAscending all
    ascend_none [] none = λ i j less filled also. absurd (omega arith)
    ascend_none (span ∷ all) none = absurd (omega arith)

-- where they are unordered, the verdict on the image takes memory
pub unordered_takes : (image : List ℕ) → KeptBefore image rule.SegmentOverlap → IsUnordered (mapped_memory image) → ImageTakesMemory image None
unordered_takes image kept unordered = (kept, unordered_some image unordered, unordered)
