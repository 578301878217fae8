use Rattle.std.proofs.Common.{arith}
use Rattle.macho_fields.specs.Bytes.{bytes_of}
use Rattle.macho_fields.specs.Command.{HasBadName}
use Rattle.macho_fields.specs.First.{rank}
use Rattle.macho_fields.specs.Image.{commands_of}
use Rattle.macho_fields.specs.declared.rule.Rule.TheVariants as rule
use Rattle.macho_image.specs.Walk.{IsWholeAndMisnamed}
use Rattle.macho_image.proofs.KeptRules.{none_short}
use Rattle.macho_image.proofs.Surveyed.{first_of_same, judged, judged_stops}
use Rattle.macho_image.proofs.survey.CommandSurvey.name.Goals as goal

-- no command is short, so each bad name belongs to a whole command
pub returns-clause-decides : goal.returns-clause-decides
returns-clause-decides c =
    let image = bytes_of c.args.self.now.candidate.bytes in
    let arch = c.args.self.now.candidate.arch in
    judged image arch rule.Name (HasBadName image) (λ _ h. h) (omega arith) (λ _ h. h) (λ _ h. h) c.requires.kept _ c.judge.result
    (first_of_same (λ command. command) (IsWholeAndMisnamed image) (HasBadName image) (commands_of image) _
    (λ p has. (λ h. h.1, λ bad. (none_short image arch (rank rule.Name) (omega arith) c.requires.kept p has, bad))) c.requires.passed.name)
    c.judge.ensures

pub returns-clause-stops : goal.returns-clause-stops
returns-clause-stops c = judged_stops rule.Name c.args.self.now.name c.judge.result c.judge.ensures
