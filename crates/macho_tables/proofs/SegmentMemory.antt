-- The addresses of the segments of an unbroken image, sorted.
use Rattle.std.proofs.Common.{◌≡◌, ◌∙◌, ◌↔◌, ◌<◌, ◌++◌, ◌∷◌, [], ℕ, List, map, length, get_or, Any, Bool, IsTrue, Option, Some, None, sym, ap, subst, arith, inr}
use Rattle.std.specs.Option.{is_some}
use Rattle.std.specs.Prelude.{IsPermutation}
use Rattle.std.proofs.lemmas.Bool.{false≢true, lt-ltb}
use Rattle.std.proofs.lemmas.List.{map-append, length-map, get_or-map}
use Rattle.std.proofs.lemmas.List.Elements.{Contains-get_or}
use Rattle.std.proofs.lemmas.List.Kept.{AllPairs-filter}
use Rattle.std.proofs.lemmas.List.Sorted.{IsPermutation-sym, Contains-permutation}
use Rattle.macho_fields.specs.Image.{commands_of}
use Rattle.macho_fields.specs.Layers.{NothingBreaks}
use Rattle.macho_fields.specs.Rules.{BreaksImage}
use Rattle.macho_fields.specs.Segment.{all_segments, Supplies}
use Rattle.macho_fields.specs.declared.rule.Rule.TheVariants as rule
use Rattle.macho_fields.proofs.Chains.{places_rise}
use Rattle.macho_fields.proofs.Lists.{contains_mapped}
use Rattle.macho_image.specs.Segment.{SegmentView}
use Rattle.macho_rules.proofs.Judged.{opened_commands}
use Rattle.macho_rules.proofs.Mapped.{filtered}
use Rattle.macho_rules.proofs.Searches.{any_of, one_of, mapped_has, unfiltered}
use Rattle.macho_rules.proofs.Verdicts.{unbroken_opened}
use Rattle.macho_spans.specs.Overlap.{SharesEarlier}
use Rattle.macho_spans.specs.Span.{Holds}
use Rattle.macho_spans.specs.declared.span.Span.{Span}
use Rattle.macho_strict.specs.Disjoint.{IsHolding}
use Rattle.macho_strict.specs.Passed.{occupied}
use Rattle.macho_strict.proofs.Disjoints.{held_not_free}
use Rattle.macho_strict.proofs.Occupied.{has_place, occupied_same}
use Rattle.macho_strict.proofs.Passed.{no_span}
use Rattle.macho_tables.specs.SegmentMemory.{memory_of, HasAddress, HoldMemory}
use Rattle.macho_tables.specs.StartNumbers.{HasByteAt, IsFileAddress}
use Rattle.macho_tables.specs.declared.segment_memory.Extent.{Extent}
use Rattle.macho_tables.specs.declared.segment_memory.Extent.TheVariants as extents
use Rattle.macho_tables.proofs.FileBytes.{held_bytes}

-- whether some span holds a place, as a search finds it
pub held_if_some : (spans : List Span) (place : ℕ) (found : Option Span) → IsHolding spans place found → (is : Bool) → is ≡ is_some found → IsTrue is ↔ Any (λ span. Holds span place) spans
held_if_some spans place None none is same = (
  λ so. absurd (false≢true (sym same ∙ so)),
  λ any. let (span, has, holds) = one_of (λ (s : Span). Holds s place) spans any in absurd (held_not_free spans span place has holds none),
)
held_if_some spans place (Some span) (has, holds, only) is same = (λ _. any_of (λ (s : Span). Holds s place) spans span has holds, λ _. same)

-- those addresses are of its memory
in_memory : (extent : Extent) (image : List ℕ) (segment address : ℕ) → Holds (memory_of extent image segment) address → Supplies image segment address
in_memory extents.Memory image segment address holds = holds
in_memory extents.File image segment address holds = ((held_bytes image address segment).0 holds).0

module _ (extent : Extent) (image : List ℕ) where
  abbrev span_of : ℕ → Span
  span_of = memory_of extent image

  abbrev spans : List Span
  spans = map span_of (all_segments image)

  -- of an unbroken image no two segments share an address
  pub none_share : NothingBreaks (BreaksImage image None) → (j : ℕ) → ¬ SharesEarlier spans j
  none_share keeps j (within, (i, less, (address, one, other))) =
      let opened = unbroken_opened image keeps in
      let count = length-map (all_segments image) span_of in
      let below : j < length (all_segments image) = omega (arith, within, count) in
      let first = get_or (all_segments image) i 0 in
      let second = get_or (all_segments image) j 0 in
      let (_, next, chain) = opened_commands image opened in
      let before = AllPairs-filter (λ a b. a < b) _ (commands_of image) (places_rise image 32 (commands_of image) next chain) i j 0 less below in
      let at_first = get_or-map span_of (all_segments image) i 0 no_span (omega (arith, less, below)) in
      let at_second = get_or-map span_of (all_segments image) j 0 no_span below in
      let here = in_memory extent image first address (subst (λ (s : Span). Holds s address) at_first one) in
      let there = in_memory extent image second address (subst (λ (s : Span). Holds s address) at_second other) in
      keeps rule.SegmentOverlap second (inr (
        commands_of image,
        opened_commands image opened,
        (
          Contains-get_or (all_segments image) j 0 below,
          any_of _ (all_segments image) first (Contains-get_or (all_segments image) i 0 (omega (arith, less, below))) (before, (address, here, there)),
        ),
      ))

  -- sorted, those that have a place hold the addresses
  pub hold_memory : (sorted : List Span) → IsPermutation (occupied spans) sorted → HoldMemory extent image sorted
  hold_memory sorted moved address = (
    λ any.
        let (span, has, holds) = one_of (λ (s : Span). Holds s address) sorted any in
        let among = unfiltered has_place spans span (Contains-permutation sorted (occupied spans) span (IsPermutation-sym (occupied spans) sorted moved) has) in
        let (segment, listed, same) = mapped_has span_of (all_segments image) span among in
        any_of (λ s. Holds (span_of s) address) (all_segments image) segment listed (subst (λ (s : Span). Holds s address) (sym same) holds),
    λ any.
        let (segment, listed, holds) = one_of (λ s. Holds (span_of s) address) (all_segments image) any in
        let filled : 0 < (span_of segment).len = omega (arith, holds.0, holds.1) in
        let among = filtered has_place spans (span_of segment) (contains_mapped span_of (all_segments image) segment listed) (lt-ltb 0 (span_of segment).len filled) in
        any_of (λ (s : Span). Holds s address) sorted (span_of segment) (Contains-permutation (occupied spans) sorted (span_of segment) moved among) holds,
  )

-- an address that has a byte of the file
pub file_address : (image : List ℕ) (address : ℕ) → HasAddress extents.File image address ↔ IsFileAddress image address
file_address image address = (
  λ any.
      let (segment, has, holds) = one_of (λ s. Holds (memory_of extents.File image s) address) (all_segments image) any in
      any_of (HasByteAt image address) (all_segments image) segment has ((held_bytes image address segment).0 holds),
  λ any.
      let (segment, has, here) = one_of (HasByteAt image address) (all_segments image) any in
      any_of (λ s. Holds (memory_of extents.File image s) address) (all_segments image) segment has ((held_bytes image address segment).1 here),
)

-- A walk over the segments

abbrev pub view_memory : Extent → SegmentView → Span
view_memory extent s = memory_of extent s.image s.place

pub memory_same : (extent : Extent) (yielded : List SegmentView) (s : SegmentView) (old : List Span) (span : Span) → span ≡ view_memory extent s → old ≡ occupied (map (view_memory extent) yielded)
    → span.len ≡ 0 → old ≡ occupied (map (view_memory extent) (yielded ++ s ∷ []))
memory_same extent yielded s old span is was empty =
    was ∙ (sym (occupied_same (map (view_memory extent) yielded) span empty)
    ∙ ap occupied (ap (λ (x : Span). map (view_memory extent) yielded ++ x ∷ []) is ∙ sym (map-append (view_memory extent) yielded (s ∷ []))))
