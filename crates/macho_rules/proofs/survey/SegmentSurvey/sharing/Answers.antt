use Rattle.std.proofs.Common.{List, ℕ, subst}
use Rattle.macho_spans.specs.SpanOrder.{IsSharingOf}
use Rattle.macho_rules.specs.Mapped.{tagged_memory}
use Rattle.macho_rules.proofs.survey.SegmentSurvey.sharing.Goals as goal

pub returns : goal.returns
returns c = subst (λ (image : List ℕ). IsSharingOf (tagged_memory image) c.sharing.result) c.self.view_is (c.sharing.ensures _ c.self.invariant.order)
