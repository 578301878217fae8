use Rattle.std.proofs.Common.{◌≤◌, ◌<◌, ℕ}
use Rattle.macho_fields.specs.Bytes.{bytes_of}
use Rattle.macho_tables.proofs.SegmentWalks.{ArePassed}
use Rattle.macho_explain.specs.Fixups.{LeadsOnIn}
use Rattle.macho_explain.proofs.pointers.find_lead.Given as goal

-- in no segment that was passed does the place lead to a pointer
abbrev pub invariant-loop-segment : goal.invariant-loop-segment
invariant-loop-segment l =
    (goal.iterator-loop-segment).can_next l.segment-iterator × (goal.iterator-loop-segment).is_finite l.segment-iterator
    × ArePassed l.initial.segment-iterator l.segment-iterator l.index × (l.index ≤ l.count)
    × ((k : ℕ) → k < l.index → ¬ LeadsOnIn (bytes_of l.sliced.held.bytes) l.chains.table.span.start (bytes_of l.chains.bytes) l.chains.header l.sliced.place k)
