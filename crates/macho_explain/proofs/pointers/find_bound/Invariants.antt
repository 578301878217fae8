use Rattle.std.proofs.Common.{◌≤◌, ◌<◌, ℕ}
use Rattle.macho_fields.specs.Bytes.{bytes_of}
use Rattle.macho_tables.proofs.SegmentWalks.{ArePassed}
use Rattle.macho_explain.specs.Fixups.{BindsMissing}
use Rattle.macho_explain.proofs.pointers.find_bound.Given as goal

-- in no segment that was passed does the pointer bind an import that is not there
abbrev pub invariant-loop-segment : goal.invariant-loop-segment
invariant-loop-segment l =
    (goal.iterator-loop-segment).can_next l.segment-iterator × (goal.iterator-loop-segment).is_finite l.segment-iterator
    × ArePassed l.initial.segment-iterator l.segment-iterator l.index × (l.index ≤ l.count)
    × ((k : ℕ) → k < l.index → ¬ BindsMissing (bytes_of l.sliced.held.bytes) (bytes_of l.chains.bytes) l.chains.header l.sliced.place k)
