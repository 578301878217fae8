use Rattle.std.proofs.Common.{◌∙◌, sym, arith}
use Rattle.macho_strict.specs.Rules.{BreaksStrictImage}
use Rattle.macho_fields.specs.declared.rule.Rule.TheVariants as rule
use Rattle.macho_strict.proofs.CommandsEnd.{ends_right, ends_wrong}
use Rattle.macho_fields.proofs.Layers.{kept_more, least_at}
use Rattle.macho_strict.proofs.Ranks.{none_before}
use Rattle.macho_strict.proofs.check.commands_end.Goals as goal

pub returns-then-end-commands_end : goal.returns-then-end-commands_end
returns-then-end-commands_end c =
    let wrong = ends_wrong c.args.image.now c.args.end c.requires (λ same. c.if-end-commands_end.true (same ∙ sym c.commands_end.ensures.end)) in
    least_at (BreaksStrictImage c.args.image.now) rule.CommandsEnd c.at.result (none_before c.args.image.now)
    (c.at.ensures.rule, (c.at.ensures.place, wrong), λ place broken. let at = broken.0 in omega (arith, c.at.ensures.place))

pub returns : goal.returns
returns c =
    kept_more (BreaksStrictImage c.args.image.now) rule.CommandsEnd (none_before c.args.image.now)
    (ends_right c.args.image.now c.args.end c.requires (c.if-end-commands_end.false ∙ c.commands_end.ensures.end))
