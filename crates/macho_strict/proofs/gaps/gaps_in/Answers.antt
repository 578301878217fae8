use Rattle.std.proofs.Common.{◌≡◌, ◌<◌, ◌++◌, ◌∷◌, [], List, take, length, sym, subst, arith}
use Rattle.std.proofs.lemmas.List.{take_all, take_more}
use Rattle.macho_fields.specs.Bytes.{bytes_of}
use Rattle.macho_spans.specs.Overlap.{sorted_spans}
use Rattle.macho_spans.specs.declared.span.Span.{Span}
use Rattle.macho_strict.specs.Gaps.{ArePassed}
use Rattle.macho_strict.proofs.Passed.{no_span, by_start_where_sorted, sorted_by_start}
use Rattle.macho_strict.proofs.gaps.gaps_in.Goals as goal

pub loop-index-preserved : goal.loop-index-preserved
loop-index-preserved c =
    let bytes = bytes_of c.args.bytes in
    let spans = sorted_spans c.args.spans.now in
    let index = c.loop-index.index in
    let less : index < length spans = omega (arith, c.len-index-end.ensures, c.loop-index-test.true) in
    let here = subst (λ (span : Span). ArePassed c.args.wanted bytes (take index spans ++ span ∷ []) c.pass.new.self) c.span.ensures (c.pass.ensures c.args.wanted bytes (take index spans) c.loop-index.invariant) in
    subst (λ (passed : List Span). ArePassed c.args.wanted bytes passed c.pass.new.self) (sym (take_more spans index no_span less)) here

pub returns-clause-passed : goal.returns-clause-passed
returns-clause-passed c =
    let spans = sorted_spans c.args.spans.now in
    let all : take c.loop-index.index spans ≡ spans = take_all c.loop-index.index spans (omega (arith, c.len-index-end.ensures, c.loop-index-test.false)) in
    subst (λ (passed : List Span). ArePassed c.args.wanted (bytes_of c.args.bytes) passed c.loop-index.gaps) all c.loop-index.invariant

pub returns-clause-by_start : goal.returns-clause-by_start
returns-clause-by_start c =
    let bytes = bytes_of c.args.bytes in
    let spans = sorted_spans c.args.spans.now in
    let all : take c.loop-index.index spans ≡ spans = take_all c.loop-index.index spans (omega (arith, c.len-index-end.ensures, c.loop-index-test.false)) in
    by_start_where_sorted c.args.wanted bytes spans c.loop-index.gaps (subst (λ (passed : List Span). ArePassed c.args.wanted bytes passed c.loop-index.gaps) all c.loop-index.invariant) (sorted_by_start spans c.requires)
