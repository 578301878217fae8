use Rattle.std.proofs.Common.{◌≤◌}
use Rattle.macho_chains.specs.ChainPages.{AreLeastPlaces}
use Rattle.macho_tables.specs.Items.{OfItem}
use Rattle.macho_chains.proofs.PointerSurveys.{SlotOf, BindOf}
use Rattle.macho_tables.proofs.SegmentWalks.{ArePassed}
use Rattle.macho_chains.proofs.chain_pages.survey.Given as goal

-- what was found of the segments that were passed
abbrev pub invariant-loop-segment : goal.invariant-loop-segment
invariant-loop-segment l =
    (goal.iterator-loop-segment).can_next l.segment-iterator × (goal.iterator-loop-segment).is_finite l.segment-iterator
    × ArePassed l.initial.segment-iterator l.segment-iterator l.index × (l.index ≤ l.count)
    × AreLeastPlaces (OfItem l.index (SlotOf l.image l.chains.start l.chains.bytes.bytes.now l.chains.header)) (OfItem l.index (BindOf l.image l.chains.start l.chains.bytes.bytes.now l.chains.header)) l.found
