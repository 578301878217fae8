use Rattle.std.proofs.Common.{◌≡◌, ◌++◌, length}
use Rattle.macho_image.specs.Segment.{sections_among}
use Rattle.macho_image.proofs.section.AllSectionsIterator.next.Given as goal

-- only segments without sections were skipped
abbrev pub invariant-loop-section : goal.invariant-loop-section
invariant-loop-section l =
    l.self-inside.sections ++ sections_among l.self-inside.segments
    ≡ l.initial.self-inside.sections ++ sections_among l.initial.self-inside.segments

abbrev pub decreases-loop-section : goal.decreases-loop-section
decreases-loop-section l = length l.self-inside.segments
