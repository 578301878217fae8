use Rattle.std.proofs.Common.{◌-◌, length}
use Rattle.macho_tables.specs.FileBytes.{AreFileBytes}
use Rattle.macho_tables.proofs.StartNumbers.{IsWalked}
use Rattle.macho_tables.proofs.function_starts.survey.Given as goal

-- the functions up to the place are judged
abbrev pub invariant-loop-place : goal.invariant-loop-place
invariant-loop-place l = record {
  bytes : AreFileBytes l.image l.bytes;
  walked : IsWalked l.image l.table.bytes.now l.place l.functions;
}

abbrev pub decreases-loop-place : goal.decreases-loop-place
decreases-loop-place l = length l.table.bytes.now - l.place
