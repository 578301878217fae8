use Rattle.std.proofs.Common.{inl}
use Rattle.macho_fields.specs.declared.rule.Rule.TheVariants as rule
use Rattle.macho_rules.proofs.Refusals.{without_memory, refused}
use Rattle.macho_linked.specs.Rules.{BreaksImage}
use Rattle.macho_linked.specs.Verdict.{TakesMemory}
use Rattle.macho_linked.proofs.check.check_exports.Goals as goal

pub returns-in_err-exports : goal.returns-in_err-exports
returns-in_err-exports c =
    let image = c.args.image.now in
    without_memory (BreaksImage image) rule.ExportAddress (TakesMemory image) (inl c.in_err-exports.ensures.memory) c.from_residual.result c.from_residual.ensures.1

pub returns-in_err-judge_exports : goal.returns-in_err-judge_exports
returns-in_err-judge_exports c =
    let image = c.args.image.now in
    refused (BreaksImage image) rule.ExportAddress (TakesMemory image) c.in_err-judge_exports.field-0.0 c.in_err-judge_exports.ensures c.from_residual-in_err-judge_exports.result c.from_residual-in_err-judge_exports.ensures.1
