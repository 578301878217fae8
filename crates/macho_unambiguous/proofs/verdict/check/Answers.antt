use Rattle.macho_rules.proofs.Profiles.{none_with_file}
use Rattle.macho_rules.proofs.Verdicts.{passed_on}
use Rattle.macho_unambiguous.specs.Rules.{BreaksFile, BreaksImage}
use Rattle.macho_unambiguous.proofs.Verdicts.{IsUnambiguousBreak, file_refused, images_refused}
use Rattle.macho_unambiguous.proofs.verdict.check.Goals as goal

pub returns-in_err-check_file-clause-refused : goal.returns-in_err-check_file-clause-refused
returns-in_err-check_file-clause-refused c =
    let file = c.args.verified.now in
    passed_on (IsUnambiguousBreak file) c.from_residual.result c.in_err-check_file.field-0.0 c.from_residual.ensures.1
    (file_refused file c.in_err-check_file.field-0.0 c.in_err-check_file.ensures.refused)

pub returns-in_err-check_images-clause-refused : goal.returns-in_err-check_images-clause-refused
returns-in_err-check_images-clause-refused c =
    let file = c.args.verified.now in
    passed_on (IsUnambiguousBreak file) c.from_residual-in_err-check_images.result c.in_err-check_images.field-0.0 c.from_residual-in_err-check_images.ensures.1
    (images_refused file c.in_ok-check_file.ensures.unbroken c.in_err-check_images.field-0.0 c.in_err-check_images.ensures.refused)

pub returns-clause-unbroken : goal.returns-clause-unbroken
returns-clause-unbroken c =
    none_with_file BreaksFile BreaksImage c.args.verified.now c.in_ok-check_file.ensures.unbroken c.in_ok-check_images.ensures.unbroken
