use Rattle.std.proofs.Common.{List, ℕ, subst}
use Rattle.macho_fields.specs.declared.rule.Rule.TheVariants as rule
use Rattle.macho_rules.specs.Check.{KeptBefore}
use Rattle.macho_rules.proofs.Judged.{opened_keeps, judged_first}
use Rattle.macho_rules.proofs.survey.SegmentSurvey.segment_address.Goals as goal

pub returns : goal.returns
returns c = judged_first _ _ c.self.view_is rule.SegmentAddress (subst (λ (image : List ℕ). KeptBefore image rule.SegmentAddress) c.self.view_is (opened_keeps _ c.self.invariant.opened)) _ c.self.invariant.segment_rules.0 c.judge.result c.judge.ensures
