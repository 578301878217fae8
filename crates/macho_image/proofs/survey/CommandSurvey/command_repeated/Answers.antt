use Rattle.std.proofs.Common.{arith}
use Rattle.macho_fields.specs.Bytes.{bytes_of}
use Rattle.macho_fields.specs.Image.{command_count}
use Rattle.macho_fields.specs.declared.rule.Rule.TheVariants as rule
use Rattle.macho_image.specs.Walk.{Repeats}
use Rattle.macho_image.proofs.Surveyed.{judged, judged_stops}
use Rattle.macho_image.proofs.survey.CommandSurvey.command_repeated.Goals as goal

pub returns-clause-decides : goal.returns-clause-decides
returns-clause-decides c =
    let image = bytes_of c.args.self.now.candidate.bytes in
    judged image c.args.self.now.candidate.arch rule.CommandRepeated (Repeats image (command_count image)) (λ _ h. h) (omega arith) (λ _ h. h) (λ _ h. h) c.requires.kept _ c.judge.result
    c.requires.passed.repeated c.judge.ensures

pub returns-clause-stops : goal.returns-clause-stops
returns-clause-stops c = judged_stops rule.CommandRepeated c.args.self.now.command_repeated c.judge.result c.judge.ensures
