use Rattle.macho_fields.specs.declared.rule.Rule.TheVariants as rule
use Rattle.macho_rules.proofs.Judged.{judged_first}
use Rattle.macho_rules.proofs.survey.SegmentSurvey.section_address.Goals as goal

pub returns : goal.returns
returns c = judged_first _ _ c.self.view_is rule.SectionAddress c.requires _ c.self.invariant.section_rules.0 c.judge.result c.judge.ensures
