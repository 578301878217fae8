use Rattle.std.proofs.Common.{◌≤◌, ◌-◌, length}
use Rattle.macho_fields.specs.NonZero.{HasNonZero}
use Rattle.macho_fields.proofs.bytes.zeros_by_half_blocks.Given as goal

abbrev pub invariant-loop-index : goal.invariant-loop-index
invariant-loop-index l = record { within : l.index ≤ length l.bytes; zero : ¬ HasNonZero l.bytes 0 l.index }

abbrev pub decreases-loop-index : goal.decreases-loop-index
decreases-loop-index l = length l.bytes - l.index
