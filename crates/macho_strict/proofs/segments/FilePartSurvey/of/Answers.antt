use Rattle.std.proofs.Common.{◌∙◌, ℕ, List, sym, subst, arith}
use Rattle.std.proofs.lemmas.Bool.{true≢false}
use Rattle.macho_fields.specs.Bytes.{bytes_of}
use Rattle.macho_strict.specs.Passed.{ArePassedBy}
use Rattle.macho_strict.specs.Sharing.{all_parts}
use Rattle.macho_strict.specs.Verdict.{file_parts}
use Rattle.macho_strict.specs.declared.gaps.Wanted.TheVariants as wanted
use Rattle.macho_strict.proofs.Claimed.{on_err}
use Rattle.macho_strict.proofs.Passed.{ascend_by_start, ascending_by_start}
use Rattle.macho_strict.proofs.Sharings.{drained_counted}
use Rattle.macho_strict.proofs.Sorted.{some_sorted}
use Rattle.macho_strict.proofs.Surveyed.{counted_parts}
use Rattle.macho_strict.proofs.segments.FilePartSurvey.of.Goals as goal

pub new-requires : goal.new-requires
new-requires c =
    let image = c.args.image.now in
    let ran = c.gaps_between-count.ensures in
    let (passed, count) = counted_parts image c.gaps_between-count.result
    (drained_counted wanted.NonZero (all_parts image) c.of.result c.of.ensures image (bytes_of c.bytes.result) c.bytes.ensures.bytes c.gaps_between-count.result ran.0 ran.1 ran.2) in
    ascend_by_start wanted.NonZero image (file_parts image) c.gaps_between-count.result.gaps passed (sym c.ascend.ensures ∙ c.if-ascend.true)

pub returns-then-ascend-clause-survey : goal.returns-then-ascend-clause-survey
returns-then-ascend-clause-survey c =
    let image = c.args.image.now in
    let ran = c.gaps_between-count.ensures in
    let (passed, count) = counted_parts image c.gaps_between-count.result
    (drained_counted wanted.NonZero (all_parts image) c.of.result c.of.ensures image (bytes_of c.bytes.result) c.bytes.ensures.bytes c.gaps_between-count.result ran.0 ran.1 ran.2) in
    c.new.ensures image c.bytes.ensures.opened passed (ascending_by_start (file_parts image) (passed.ascending.0 (sym c.ascend.ensures ∙ c.if-ascend.true))) (omega (arith, count))

pub returns-in_err-list-clause-memory : goal.returns-in_err-list-clause-memory
returns-in_err-list-clause-memory c =
    let image = c.args.image.now in
    let ran = c.gaps_between-count.ensures in
    let (passed, count) = counted_parts image c.gaps_between-count.result
    (drained_counted wanted.NonZero (all_parts image) c.of.result c.of.ensures image (bytes_of c.bytes.result) c.bytes.ensures.bytes c.gaps_between-count.result ran.0 ran.1 ran.2) in
    on_err c.from_residual.result (λ up. true≢false (sym (passed.ascending.1 up) ∙ (sym c.ascend.ensures ∙ c.if-ascend.false)))

pub returns-clause-survey : goal.returns-clause-survey
returns-clause-survey c =
    let image = c.args.image.now in
    let spans = file_parts image in
    let ran = c.gaps_between-count.ensures in
    let (passed, count) = counted_parts image c.gaps_between-count.result
    (drained_counted wanted.NonZero (all_parts image) c.of.result c.of.ensures image (bytes_of c.bytes.result) c.bytes.ensures.bytes c.gaps_between-count.result ran.0 ran.1 ran.2) in
    let by = subst (λ (bytes : List ℕ). ArePassedBy bytes spans c.pass_sorted.result.gaps c.pass_sorted.result.sorted) c.bytes-2.ensures.bytes (c.pass_sorted.ensures.passed spans c.in_ok-list.ensures) in
    c.new-2.ensures image c.bytes.ensures.opened by (some_sorted image spans c.pass_sorted.result.gaps c.pass_sorted.result.sorted by c.pass_sorted.ensures.sorted) (omega (arith, count))
