-- The last span that begins at a place or before it.
use Rattle.std.proofs.Common.{◌≡◌, ℕ, ◌+◌, ◌<◌, ◌≤◌, Bool, true, false, List, length, leb, leb-true, None, Some, sym, subst, arith}
use Rattle.std.specs.List.Sorted.{IsPartitionPoint}
use Rattle.std.proofs.lemmas.Bool.{leb-false}
use Rattle.std.proofs.lemmas.List.{get_or-map, length-map}
use Rattle.macho_spans.specs.Overlap.{span_at, sorted_spans, item_at, IsLastBy}
use Rattle.macho_spans.specs.declared.span.Span.{Span}
use Rattle.macho_spans.specs.declared.overlap.Numbered.{Numbered}
use Rattle.macho_spans.proofs.Overlaps.{span_of, no_span, no_item}

abbrev pub begins_by : ℕ → Numbered → Bool
begins_by place item = leb item.span.start place

module _ (items : List Numbered) (place next : ℕ) (bound : next ≤ length items) (point : IsPartitionPoint (λ item. begins_by place item ≡ true) (λ item. begins_by place item ≡ false) items next) where
  at_index : (i : ℕ) → i < length items → span_at (sorted_spans items) i ≡ (item_at items i).span
  at_index i less = get_or-map span_of items i no_item no_span less

  after : (i : ℕ) → next ≤ i → i < length (sorted_spans items) → place < (span_at (sorted_spans items) i).start
  after i most within =
      let inside : i < length items = omega (arith, within, length-map items span_of) in
      let far : place < (item_at items i).span.start = leb-false _ _ (point.1 i no_item most inside) in
      subst (λ (s : Span). place < s.start) (sym (at_index i inside)) far

  pub none_begins : next ≡ 0 → IsLastBy (sorted_spans items) place None
  none_begins none i within = after i (omega arith) within

  pub last_begins : (last : ℕ) → last + 1 ≡ next → IsLastBy (sorted_spans items) place (Some (item_at items last).span)
  last_begins last is =
      let inside : last < length items = omega arith in (
        last,
        omega (arith, inside, length-map items span_of),
        at_index last inside,
        leb-true _ _ (point.0 last no_item (omega arith) (omega arith)),
        λ i past within. after i (omega arith) within,
      )
