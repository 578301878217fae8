use Rattle.macho_symbols.proofs.FewSpans.{AreNoted}
use Rattle.macho_symbols.proofs.few_spans.FewSpans.of.Given as goal

-- the spans of the segments that were passed are noted
abbrev pub invariant-loop-segment : goal.invariant-loop-segment
invariant-loop-segment l =
    (goal.iterator-loop-segment).can_next l.segment-iterator × (goal.iterator-loop-segment).is_finite l.segment-iterator
    × AreNoted l.initial.segment-iterator l.segment-iterator l.spans l.count
