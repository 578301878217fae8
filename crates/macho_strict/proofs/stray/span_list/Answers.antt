use Rattle.std.proofs.Common.{arith, ◌∙◌}
use Rattle.macho_strict.proofs.SliceSpans.{spans_pushed, spans_all}
use Rattle.macho_strict.proofs.stray.span_list.Goals as goal

pub loop-index-preserved : goal.loop-index-preserved
loop-index-preserved c =
    spans_pushed c.args.verified.now c.args.table c.loop-index.index (omega (arith, c.slice_count-index-end.ensures, c.loop-index-test.true)) _ _ _
    c.in_ok-push-2.ensures.ok c.loop-index.invariant c.slice_span.ensures

pub returns : goal.returns
returns c = c.loop-index.invariant ∙ spans_all c.args.verified.now c.args.table c.loop-index.index (omega (arith, c.slice_count-index-end.ensures, c.loop-index-test.false))
