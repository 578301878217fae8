use Rattle.macho_fields.proofs.FirstPlaces.{first_judged}
use Rattle.macho_unambiguous.specs.Rules.{BreaksFile}
use Rattle.macho_unambiguous.proofs.check.judge_file.Goals as goal

pub returns : goal.returns
returns c = first_judged (BreaksFile c.args.verified.now) c.args.rule c.args.least c.judge.result c.requires.kept c.requires.least c.judge.ensures
