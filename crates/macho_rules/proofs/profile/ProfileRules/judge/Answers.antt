use Rattle.macho_fields.proofs.FirstPlaces.{first_judged}
use Rattle.macho_rules.proofs.profile.ProfileRules.judge.Goals as goal

pub returns : goal.returns
returns g c = first_judged (g.Self.ProfileRules.breaks c.args.image.now) c.args.rule c.args.least c.judge.result c.requires.kept c.requires.least c.judge.ensures
