use Rattle.std.proofs.Common.{sym, ◌∙◌}
use Rattle.macho_strict.specs.Verdict.{element_spans}
use Rattle.macho_strict.specs.declared.gaps.Wanted.TheVariants as wanted
use Rattle.macho_strict.proofs.Claimed.{none_shared, on_err}
use Rattle.macho_strict.proofs.Passed.{ascend_by_start}
use Rattle.macho_strict.proofs.Sorted.{passed_for, ascending_sorted, not_ascending}
use Rattle.macho_strict.proofs.claims.Claims.of.Goals as goal

pub new-requires-clause-by_start : goal.new-requires-clause-by_start
new-requires-clause-by_start c =
    let image = c.args.image.now in
    let are = passed_for image (element_spans image) c.pass-passed.result.gaps c.pass-passed.result.sorted c.pass-passed.ensures.passed in
    ascend_by_start wanted.NonZero image are.ordered c.pass-passed.result.gaps are.passed (sym c.ascend.ensures ∙ c.if-ascend.true)

pub new-requires-clause-sorted : goal.new-requires-clause-sorted
new-requires-clause-sorted c =
    let image = c.args.image.now in
    ascending_sorted image (element_spans image) c.pass-passed.result.gaps c.pass-passed.result.sorted c.pass-passed.ensures.passed (sym c.ascend.ensures ∙ c.if-ascend.true)

pub new-requires-clause-shared : goal.new-requires-clause-shared
new-requires-clause-shared c =
    let image = c.args.image.now in
    none_shared image c.pass-passed.result.gaps (passed_for image (element_spans image) c.pass-passed.result.gaps c.pass-passed.result.sorted c.pass-passed.ensures.passed) (sym c.ascend.ensures ∙ c.if-ascend.true)

pub returns-then-is_some-clause-memory : goal.returns-then-is_some-clause-memory
returns-then-is_some-clause-memory c =
    let image = c.args.image.now in
    on_err c.of_sorted.result (not_ascending image (element_spans image) c.pass-passed.result.gaps c.pass-passed.result.sorted c.pass-passed.ensures.passed (sym c.ascend.ensures ∙ c.if-ascend.false))

pub returns-clause-memory : goal.returns-clause-memory
returns-clause-memory c =
    let image = c.args.image.now in
    on_err c.of_sorted-2.result (not_ascending image (element_spans image) c.pass-passed.result.gaps c.pass-passed.result.sorted c.pass-passed.ensures.passed (sym c.ascend.ensures ∙ c.if-ascend.false))
