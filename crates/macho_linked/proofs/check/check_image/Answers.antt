use Rattle.macho_rules.proofs.Verdicts.{passed_on}
use Rattle.macho_rules.specs.Verdict.{IsRefusalOf}
use Rattle.macho_rules.specs.declared.refusal.Refusal.TheVariants as refusal
use Rattle.macho_linked.specs.Rules.{BreaksImage}
use Rattle.macho_linked.specs.Verdict.{TakesMemory}
use Rattle.macho_linked.proofs.Ranks.{all_unbroken}
use Rattle.macho_linked.proofs.check.check_image.Goals as goal

pub returns-in_err-check_fixups-clause-refused : goal.returns-in_err-check_fixups-clause-refused
returns-in_err-check_fixups-clause-refused c =
    let image = c.args.image.now in
    passed_on (IsRefusalOf (BreaksImage image) (TakesMemory image)) c.from_residual.result (refusal.Broken c.in_err-check_fixups.field-0.0) c.from_residual.ensures.1 c.in_err-check_fixups.ensures

pub returns-in_err-check_exports-clause-refused : goal.returns-in_err-check_exports-clause-refused
returns-in_err-check_exports-clause-refused c =
    let image = c.args.image.now in
    passed_on (IsRefusalOf (BreaksImage image) (TakesMemory image)) c.from_residual-in_err-check_exports.result c.in_err-check_exports.field-0.0 c.from_residual-in_err-check_exports.ensures.1
    c.in_err-check_exports.ensures

pub returns-in_err-check_functions-clause-refused : goal.returns-in_err-check_functions-clause-refused
returns-in_err-check_functions-clause-refused c =
    let image = c.args.image.now in
    passed_on (IsRefusalOf (BreaksImage image) (TakesMemory image)) c.from_residual-in_err-check_functions.result c.in_err-check_functions.field-0.0 c.from_residual-in_err-check_functions.ensures.1
    c.in_err-check_functions.ensures

pub returns-in_err-check_signature-clause-refused : goal.returns-in_err-check_signature-clause-refused
returns-in_err-check_signature-clause-refused c =
    let image = c.args.image.now in
    passed_on (IsRefusalOf (BreaksImage image) (TakesMemory image)) c.from_residual-in_err-check_signature.result (refusal.Broken c.in_err-check_signature.field-0.0) c.from_residual-in_err-check_signature.ensures.1 c.in_err-check_signature.ensures

pub returns-in_err-check_symbols-clause-refused : goal.returns-in_err-check_symbols-clause-refused
returns-in_err-check_symbols-clause-refused c =
    let image = c.args.image.now in
    passed_on (IsRefusalOf (BreaksImage image) (TakesMemory image)) c.from_residual-in_err-check_symbols.result c.in_err-check_symbols.field-0.0 c.from_residual-in_err-check_symbols.ensures.1 c.in_err-check_symbols.ensures

pub returns-in_err-check_commands-clause-refused : goal.returns-in_err-check_commands-clause-refused
returns-in_err-check_commands-clause-refused c =
    let image = c.args.image.now in
    passed_on (IsRefusalOf (BreaksImage image) (TakesMemory image)) c.from_residual-in_err-check_commands.result (refusal.Broken c.in_err-check_commands.field-0.0) c.from_residual-in_err-check_commands.ensures.1 c.in_err-check_commands.ensures

pub returns-clause-unbroken : goal.returns-clause-unbroken
returns-clause-unbroken c = all_unbroken c.args.image.now c.in_ok-check_commands.ensures
