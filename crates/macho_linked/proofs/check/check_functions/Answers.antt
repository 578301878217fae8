use Rattle.std.proofs.Common.{inl, inr}
use Rattle.macho_fields.specs.declared.rule.Rule.TheVariants as rule
use Rattle.macho_rules.proofs.Refusals.{without_memory, refused}
use Rattle.macho_linked.specs.Rules.{BreaksImage}
use Rattle.macho_linked.specs.Verdict.{TakesMemory}
use Rattle.macho_linked.proofs.check.check_functions.Goals as goal

pub returns-in_err-functions : goal.returns-in_err-functions
returns-in_err-functions c =
    let image = c.args.image.now in
    without_memory (BreaksImage image) rule.InitOffset (TakesMemory image) (inr (inl c.in_err-functions.ensures.memory)) c.from_residual.result c.from_residual.ensures.1

pub returns-in_err-judge : goal.returns-in_err-judge
returns-in_err-judge c =
    let image = c.args.image.now in
    refused (BreaksImage image) rule.InitOffset (TakesMemory image) c.in_err-judge.field-0.0 c.in_err-judge.ensures c.from_residual-in_err-judge.result c.from_residual-in_err-judge.ensures.1

pub returns-in_err-judge-2 : goal.returns-in_err-judge-2
returns-in_err-judge-2 c =
    let image = c.args.image.now in
    refused (BreaksImage image) rule.InitOffset (TakesMemory image) c.in_err-judge-2.field-0.0 c.in_err-judge-2.ensures c.from_residual-in_err-judge-2.result c.from_residual-in_err-judge-2.ensures.1

pub returns-in_err-data_in_code : goal.returns-in_err-data_in_code
returns-in_err-data_in_code c =
    let image = c.args.image.now in
    without_memory (BreaksImage image) rule.InitOffset (TakesMemory image) (inr (inr (inl c.in_err-data_in_code.ensures.memory))) c.from_residual-in_err-data_in_code.result c.from_residual-in_err-data_in_code.ensures.1

pub returns-in_err-judge-3 : goal.returns-in_err-judge-3
returns-in_err-judge-3 c =
    let image = c.args.image.now in
    refused (BreaksImage image) rule.InitOffset (TakesMemory image) c.in_err-judge-3.field-0.0 c.in_err-judge-3.ensures c.from_residual-in_err-judge-3.result c.from_residual-in_err-judge-3.ensures.1

pub returns-in_err-init_offset : goal.returns-in_err-init_offset
returns-in_err-init_offset c =
    let image = c.args.image.now in
    without_memory (BreaksImage image) rule.InitOffset (TakesMemory image) (inr (inr (inr c.in_err-init_offset.ensures.memory))) c.from_residual-in_err-init_offset.result c.from_residual-in_err-init_offset.ensures.1

pub returns-in_err-judge-4 : goal.returns-in_err-judge-4
returns-in_err-judge-4 c =
    let image = c.args.image.now in
    refused (BreaksImage image) rule.InitOffset (TakesMemory image) c.in_err-judge-4.field-0.0 c.in_err-judge-4.ensures c.from_residual-in_err-judge-4.result c.from_residual-in_err-judge-4.ensures.1
