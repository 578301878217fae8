use Rattle.std.proofs.Common.{◌≡◌, List, subst, arith, ◌∙◌}
use Rattle.std.specs.Prelude.{IsPermutation}
use Rattle.macho_spans.specs.Overlap.{sorted_spans}
use Rattle.macho_spans.specs.declared.span.Span.{Span}
use Rattle.macho_strict.specs.Verdict.{slice_spans}
use Rattle.macho_readers.proofs.SlicePages.{spans_pushed, spans_all}
use Rattle.macho_readers.proofs.slice_pages.sorted_slices.Goals as goal

pub loop-index-preserved : goal.loop-index-preserved
loop-index-preserved c =
    spans_pushed c.args.verified.now c.loop-index.index (omega (arith, c.slice_count-index-end.ensures, c.loop-index-test.true)) _ _ _
    c.in_ok-push.ensures.ok c.loop-index.invariant c.slice_span.ensures

pub returns : goal.returns
returns c =
    let file = c.args.verified.now in
    let all : c.loop-index.list.spans ≡ slice_spans file = c.loop-index.invariant ∙ spans_all file c.loop-index.index (omega (arith, c.slice_count-index-end.ensures, c.loop-index-test.false)) in
    record { same = subst (λ (spans : List Span). IsPermutation spans (sorted_spans c.sorted.result)) all c.sorted.ensures.permutation; rising = c.sorted.ensures.rising }
