use Rattle.std.proofs.Common.{◌≡◌, ℕ, ◌<◌, length, drop}
use Rattle.std.specs.Prelude.{slice_get, Some}
use Rattle.macho_fields.specs.Bytes.{bytes_of}
use Rattle.macho_explain.specs.Explain.{all_segment_loads, MeetsSegment}
use Rattle.macho_rows.specs.Loads.{wanted_left}
use Rattle.macho_rows.specs.declared.load.Wanted.TheVariants as wanted
use Rattle.macho_explain.proofs.segment.find_segment.Given as goal

-- some segments were passed, and none of them is sought
abbrev pub invariant-loop-load : goal.invariant-loop-load
invariant-loop-load l =
    (passed : ℕ) × (drop passed (all_segment_loads (bytes_of l.sliced.held.bytes)) ≡ wanted_left wanted.Segments (bytes_of l.sliced.held.bytes) l.cursor)
    × ((k command : ℕ) → k < passed → slice_get (all_segment_loads (bytes_of l.sliced.held.bytes)) k ≡ Some command → ¬ MeetsSegment (bytes_of l.sliced.held.bytes) l.wanted command)

abbrev pub decreases-loop-load : goal.decreases-loop-load
decreases-loop-load l = length (wanted_left wanted.Segments (bytes_of l.sliced.held.bytes) l.cursor)
