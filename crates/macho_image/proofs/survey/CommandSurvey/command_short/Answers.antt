use Rattle.std.proofs.Common.{arith}
use Rattle.macho_fields.specs.Bytes.{bytes_of}
use Rattle.macho_fields.specs.Command.{IsShort}
use Rattle.macho_fields.specs.declared.rule.Rule.TheVariants as rule
use Rattle.macho_image.proofs.Surveyed.{judged, judged_stops}
use Rattle.macho_image.proofs.survey.CommandSurvey.command_short.Goals as goal

pub returns-clause-decides : goal.returns-clause-decides
returns-clause-decides c =
    let image = bytes_of c.args.self.now.candidate.bytes in
    judged image c.args.self.now.candidate.arch rule.CommandShort (IsShort image) (λ _ h. h) (omega arith) (λ _ h. h) (λ _ h. h) c.requires.kept _ c.judge.result c.requires.passed.short c.judge.ensures

pub returns-clause-stops : goal.returns-clause-stops
returns-clause-stops c = judged_stops rule.CommandShort c.args.self.now.command_short c.judge.result c.judge.ensures
