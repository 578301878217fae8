use Rattle.std.proofs.Common.{◌∷◌, ◌++◌, [], List, take, sym, subst, arith}
use Rattle.macho_spans.specs.declared.span.Span.{Span}
use Rattle.macho_strict.specs.declared.gaps.Wanted.TheVariants as wanted
use Rattle.macho_strict.specs.Gaps.{ArePassed}
use Rattle.macho_strict.specs.Verdict.{slice_spans}
use Rattle.macho_strict.proofs.SliceSpans.{spans_more}
use Rattle.macho_strict.proofs.stray.pass_slices.Goals as goal

pub loop-index-preserved : goal.loop-index-preserved
loop-index-preserved c =
    let file = c.args.verified.now in
    let index = c.loop-index.index in
    let passed = c.args.table ∷ take index (slice_spans file) in
    let here = subst (λ (span : Span). ArePassed wanted.NonZero file (passed ++ span ∷ []) c.pass-in-loop-index.new.self) c.slice_span.ensures (c.pass-in-loop-index.ensures wanted.NonZero file passed c.loop-index.invariant) in
    subst (λ (spans : List Span). ArePassed wanted.NonZero file spans c.pass-in-loop-index.new.self) (sym (spans_more file c.args.table index (omega (arith, c.loop-index-test.true, c.slice_count-index-end.ensures)))) here
