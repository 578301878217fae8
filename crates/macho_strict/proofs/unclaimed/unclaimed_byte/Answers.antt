use Rattle.std.proofs.Common.{Ok, Err}
use Rattle.macho_fields.specs.Layers.{IsLeast}
use Rattle.macho_fields.specs.declared.rule.Rule.TheVariants as rule
use Rattle.macho_fields.proofs.FirstPlaces.{first_judged}
use Rattle.macho_strict.specs.Rules.{BreaksStrictImage}
use Rattle.macho_strict.specs.Verdict.{HasLooseNop}
use Rattle.macho_rules.proofs.Refusals.{without_memory, refused}
use Rattle.macho_strict.proofs.unclaimed.unclaimed_byte.Goals as goal

pub returns-in_err-unclaimed : goal.returns-in_err-unclaimed
returns-in_err-unclaimed c =
    let image = c.args.image.now in
    without_memory (BreaksStrictImage image) rule.UnclaimedByte (HasLooseNop image) c.in_err-unclaimed.ensures.memory c.from_residual.result c.from_residual.ensures.1

pub returns-in_err-judge : goal.returns-in_err-judge
returns-in_err-judge c =
    let image = c.args.image.now in
    let found = c.in_ok-unclaimed.unclaimed in
    let b = c.in_err-judge.field-0.0 in
    let least : IsLeast (BreaksStrictImage image) b = first_judged {T = Unit {0}} (BreaksStrictImage image) rule.UnclaimedByte found (Err b) c.requires.kept c.in_ok-unclaimed.ensures.found c.in_err-judge.ensures in
    refused (BreaksStrictImage image) rule.UnclaimedByte (HasLooseNop image) b least c.from_residual-in_err-judge.result c.from_residual-in_err-judge.ensures.1

pub returns : goal.returns
returns c =
    first_judged {T = Unit {0}} (BreaksStrictImage c.args.image.now) rule.UnclaimedByte c.in_ok-unclaimed.unclaimed (Ok c.in_ok-judge.field-0) c.requires.kept c.in_ok-unclaimed.ensures.found c.in_ok-judge.ensures
