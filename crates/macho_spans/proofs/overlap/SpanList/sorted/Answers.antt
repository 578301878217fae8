use Rattle.std.proofs.Common.{◌<◌, List, length, arith, rules, subst}
use Rattle.std.specs.Prelude.{IsPermutation}
use Rattle.std.proofs.lemmas.List.{get_or-map, length-map}
use Rattle.std.proofs.lemmas.List.Sorted.{IsNonDecreasingBy-from_sort_by_key, IsPermutation-map}
use Rattle.std.specs.List.Sorted.{IsNonDecreasingBy}
use Rattle.macho_spans.specs.Overlap.{SpanListView, sorted_spans}
use Rattle.macho_spans.specs.declared.overlap.Numbered.{Numbered}
use Rattle.macho_spans.proofs.overlap.SpanList.sorted.Goals as goal

rising_spans : (items : List Numbered) → IsNonDecreasingBy (λ item. item.span.start) items → IsNonDecreasingBy (λ span. span.start) (sorted_spans items)
rising_spans items rising i j d before within =
    let item : Numbered = record { span = d; index = 0 } in
    let inside : j < length items = omega (arith, length-map items (λ (n : Numbered). n.span)) in
    let earlier : i < length items = omega arith in
    rw (get_or-map (λ (n : Numbered). n.span) items i item d earlier, get_or-map (λ (n : Numbered). n.span) items j item d inside) (rising i j item before inside)

pub invariant_of-result : goal.invariant_of-result
invariant_of-result c = IsNonDecreasingBy-from_sort_by_key (λ item. item.span.start) _ c.sort_unstable_by_key.ensures.sorted (λ a r q k. search rules)

pub returns-clause-permutation : goal.returns-clause-permutation
returns-clause-permutation c =
    let items = c.sort_unstable_by_key.new.self.items in
    subst (λ (view : SpanListView). IsPermutation view.spans (sorted_spans items)) c.self.view_is
    (IsPermutation-map (λ (n : Numbered). n.span) c.self.inside.items.items items c.sort_unstable_by_key.ensures.permutation)

pub returns-clause-rising : goal.returns-clause-rising
returns-clause-rising c = rising_spans c.sort_unstable_by_key.new.self.items (invariant_of-result c)
