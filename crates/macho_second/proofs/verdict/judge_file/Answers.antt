use Rattle.std.proofs.lemmas.Bool.{both_ways}
use Rattle.macho_fields.specs.Bytes.{bytes_of}
use Rattle.macho_fields.specs.First.{IsFirstBroken}
use Rattle.macho_rules.proofs.KeptSlices.{file_first}
use Rattle.macho_rules.proofs.Verdicts.{passed_on}
use Rattle.macho_second.proofs.Second.{plain_unbroken, plain_first}
use Rattle.macho_second.proofs.verdict.judge_file.Goals as goal

pub returns-in_err-magic-clause-first : goal.returns-in_err-magic-clause-first
returns-in_err-magic-clause-first c =
    let file = bytes_of c.args.file in
    let found = c.in_err-magic.field-0.0 in
    passed_on (IsFirstBroken file) c.from_residual.result found c.from_residual.ensures.1 (file_first file found c.in_err-magic.ensures.continues)

pub returns-else-is_universal-clause-unbroken : goal.returns-else-is_universal-clause-unbroken
returns-else-is_universal-clause-unbroken c =
    plain_unbroken (bytes_of c.args.file) c.in_ok-magic.ensures.known
    (λ universal. both_ways c.is_universal.result c.if-is_universal.false (c.is_universal.ensures.1 universal)) c.judge_image.result c.judge_image.ensures

pub returns-else-is_universal-clause-first : goal.returns-else-is_universal-clause-first
returns-else-is_universal-clause-first c =
    plain_first (bytes_of c.args.file) c.in_ok-magic.ensures.known
    (λ universal. both_ways c.is_universal.result c.if-is_universal.false (c.is_universal.ensures.1 universal)) c.judge_image.result c.judge_image.ensures
