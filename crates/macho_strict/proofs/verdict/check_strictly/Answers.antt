use Rattle.macho_rules.proofs.Profiles.{none_with_file}
use Rattle.macho_rules.proofs.Verdicts.{passed_on}
use Rattle.macho_strict.specs.Rules.{BreaksStrictFile, BreaksStrictImage}
use Rattle.macho_strict.proofs.Verdicts.{IsStrictBreak, file_unbroken, file_refused, images_refused}
use Rattle.macho_strict.proofs.verdict.check_strictly.Goals as goal

pub returns-in_err-fat_stray_byte-clause-refused : goal.returns-in_err-fat_stray_byte-clause-refused
returns-in_err-fat_stray_byte-clause-refused c =
    let file = c.args.verified.now in
    passed_on (IsStrictBreak file) c.from_residual.result c.in_err-fat_stray_byte.field-0.0 c.from_residual.ensures.1
    (file_refused file c.in_err-fat_stray_byte.field-0.0 c.in_err-fat_stray_byte.ensures)

pub returns-in_err-check_images-clause-refused : goal.returns-in_err-check_images-clause-refused
returns-in_err-check_images-clause-refused c =
    let file = c.args.verified.now in
    passed_on (IsStrictBreak file) c.from_residual-in_err-check_images.result c.in_err-check_images.field-0.0 c.from_residual-in_err-check_images.ensures.1
    (images_refused file (file_unbroken file c.in_ok-fat_stray_byte.ensures) c.in_err-check_images.field-0.0 c.in_err-check_images.ensures.refused)

pub returns-clause-unbroken : goal.returns-clause-unbroken
returns-clause-unbroken c =
    let file = c.args.verified.now in
    none_with_file BreaksStrictFile BreaksStrictImage file (file_unbroken file c.in_ok-fat_stray_byte.ensures) c.in_ok-check_images.ensures.unbroken
