use Rattle.std.proofs.Common.{inl, inr}
use Rattle.macho_fields.specs.declared.rule.Rule.TheVariants as rule
use Rattle.macho_rules.proofs.Refusals.{without_memory, refused}
use Rattle.macho_linked.specs.Rules.{BreaksImage}
use Rattle.macho_linked.specs.Verdict.{TakesMemory}
use Rattle.macho_linked.proofs.check.check_symbols.Goals as goal

pub returns-in_err-symbols : goal.returns-in_err-symbols
returns-in_err-symbols c =
    let image = c.args.image.now in
    without_memory (BreaksImage image) rule.Relocation (TakesMemory image) (inr (inl c.in_err-symbols.ensures.memory.0)) c.from_residual.result c.from_residual.ensures.1

pub returns-in_err-judge_symbols : goal.returns-in_err-judge_symbols
returns-in_err-judge_symbols c =
    let image = c.args.image.now in
    refused (BreaksImage image) rule.Relocation (TakesMemory image) c.in_err-judge_symbols.field-0.0 c.in_err-judge_symbols.ensures c.from_residual-in_err-judge_symbols.result c.from_residual-in_err-judge_symbols.ensures.1
