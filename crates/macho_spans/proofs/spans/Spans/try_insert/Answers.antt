use Rattle.std.proofs.Common.{ap, rules}
use Rattle.std.proofs.lemmas.List.Sorted.{IsPermutation-insert}
use Rattle.std.proofs.lemmas.Result.{err_from_is_err_and}
use Rattle.macho_spans.specs.Spans.{SpansView}
use Rattle.macho_spans.proofs.Kept.{kept_shared, kept_added}
use Rattle.macho_spans.proofs.SortedSpans.{sorted_more}
use Rattle.macho_spans.proofs.spans.Spans.try_insert.Goals as goal

pub returns-in_default-clause-kept : goal.returns-in_default-clause-kept
returns-in_default-clause-kept c =
    let viewed = ap (λ (view : SpansView). view.pairs) c.self.view_is in
    rw (c.gap_for.ensures.search.same, ← viewed) (λ calls kept. kept_shared (c.args.span, c.args.tag) calls c.self.inside.held.pairs.items c.in_default.ensures.gap kept)

pub returns-in_err-insert-clause-memory_to_add : goal.returns-in_err-insert-clause-memory_to_add
returns-in_err-insert-clause-memory_to_add c =
    let viewed = ap (λ (view : SpansView). view.pairs) c.self.view_is in
    let p = err_from_is_err_and c.from_residual.result c.from_residual.ensures.1 in
    rw (p.1, ← viewed) c.in-Some.ensures.gap.0

pub invariant_of-self-2 : goal.invariant_of-self-2
invariant_of-self-2 c =
    rw (c.in_ok-insert.ensures.ok, c.gap_for.ensures.search.same) (sorted_more _ c.self.invariant c.args.span c.args.tag c.requires c.in-Some.next c.in-Some.ensures.gap.1 c.in-Some.ensures.gap.0)

pub returns-clause-kept : goal.returns-clause-kept
returns-clause-kept c =
    let viewed = ap (λ (view : SpansView). view.pairs) c.self.view_is in
    rw (c.in_ok-insert.ensures.ok, c.gap_for.ensures.search.same, ← viewed)
    (λ calls kept. kept_added (c.args.span, c.args.tag) calls c.self.inside.held.pairs.items _ c.in-Some.ensures.gap.0 (IsPermutation-insert _ c.in-Some.next (c.args.span, c.args.tag)) kept)

pub returns-clause-added : goal.returns-clause-added
returns-clause-added c =
    let viewed = ap (λ (view : SpansView). view.pairs) c.self.view_is in
    rw (c.in_ok-insert.ensures.ok, c.gap_for.ensures.search.same, ← viewed) (λ _. IsPermutation-insert _ c.in-Some.next (c.args.span, c.args.tag))

pub returns-clause-sorted : goal.returns-clause-sorted
returns-clause-sorted c =
    rw (c.in_ok-insert.ensures.ok, c.gap_for.ensures.search.same) (sorted_more _ c.self.invariant c.args.span c.args.tag c.requires c.in-Some.next c.in-Some.ensures.gap.1 c.in-Some.ensures.gap.0)

pub returns-clause-overlap : goal.returns-clause-overlap
returns-clause-overlap c = search rules

pub returns-clause-unchanged : goal.returns-clause-unchanged
returns-clause-unchanged c = search rules
