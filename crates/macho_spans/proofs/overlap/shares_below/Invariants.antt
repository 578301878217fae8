use Rattle.macho_spans.specs.SearchSteps.{ArePassedBelow}
use Rattle.macho_spans.proofs.overlap.shares_below.Given as goal

-- the items before this one share nothing and end at end or before
abbrev pub invariant-loop-item : goal.invariant-loop-item
invariant-loop-item l = ArePassedBelow l.items l.item-index l.count l.end
