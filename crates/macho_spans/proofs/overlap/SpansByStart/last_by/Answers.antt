use Rattle.std.proofs.Common.{◌≡◌, ◌+◌, ◌<◌, List, length, get_or, Some, sym, ◌∙◌, subst, arith, rules}
use Rattle.std.specs.List.Sorted.{IsNonDecreasingBy}
use Rattle.std.proofs.lemmas.List.{get_or_default}
use Rattle.std.proofs.lemmas.List.Sorted.{IsPartitionPoint-from_clause, IsPartitionedBy-leb}
use Rattle.macho_spans.specs.Overlap.{IsLastBy, sorted_spans, item_at}
use Rattle.macho_spans.specs.declared.overlap.Numbered.{Numbered}
use Rattle.macho_spans.proofs.LastBy.{begins_by, none_begins, last_begins}
use Rattle.macho_spans.proofs.Overlaps.{no_item}
use Rattle.macho_spans.proofs.overlap.SpansByStart.last_by.Goals as goal

pub returns-in_err-last : goal.returns-in_err-last
returns-in_err-last c =
    let items = c.deref.result.now in
    let rising : IsNonDecreasingBy (λ (item : Numbered). item.span.start) items = subst (IsNonDecreasingBy (λ (item : Numbered). item.span.start)) (sym c.deref.ensures.value) c.self.invariant in
    let parted = IsPartitionedBy-leb (λ (item : Numbered). item.span.start) items c.args.place rising in
    let point = IsPartitionPoint-from_clause (begins_by c.args.place) items c.partition_point-next.result c.partition_point-next.ensures.partitioned parted (λ a r q k. search rules) in
    let none : c.partition_point-next.result ≡ 0 = omega (arith, c.in_err-last.ensures) in
    subst (λ (these : List Numbered). IsLastBy (sorted_spans these) c.args.place c.from_residual.result) (c.deref.ensures.value ∙ c.self.view_is)
    (subst (IsLastBy (sorted_spans items) c.args.place) (sym c.from_residual.ensures) (none_begins items c.args.place c.partition_point-next.result c.partition_point-next.ensures.bound point none))

pub returns : goal.returns
returns c =
    let items = c.deref.result.now in
    let last = c.in_ok-last.last in
    let rising : IsNonDecreasingBy (λ (item : Numbered). item.span.start) items = subst (IsNonDecreasingBy (λ (item : Numbered). item.span.start)) (sym c.deref.ensures.value) c.self.invariant in
    let parted = IsPartitionedBy-leb (λ (item : Numbered). item.span.start) items c.args.place rising in
    let point = IsPartitionPoint-from_clause (begins_by c.args.place) items c.partition_point-next.result c.partition_point-next.ensures.partitioned parted (λ a r q k. search rules) in
    let here : last + 1 ≡ c.partition_point-next.result = omega (arith, c.in_ok-last.ensures) in
    let inside : last < length items = omega (arith, here, c.partition_point-next.ensures.bound) in
    let item : item_at items last ≡ c.index.result.now =
    sym (get_or_default items last c.index.result.now no_item inside) ∙ sym (subst (λ (these : List Numbered). c.index.result.now ≡ get_or these last c.index.result.now) (sym c.deref.ensures.value) c.index.ensures) in
    subst (λ (these : List Numbered). IsLastBy (sorted_spans these) c.args.place (Some c.index.result.now.span)) (c.deref.ensures.value ∙ c.self.view_is)
    (subst (λ (i : Numbered). IsLastBy (sorted_spans items) c.args.place (Some i.span)) item (last_begins items c.args.place c.partition_point-next.result c.partition_point-next.ensures.bound point last here))
