use Rattle.std.proofs.Common.{◌≡◌, ◌-◌, ◌≤◌}
use Rattle.macho_fixups.specs.Streams.{bytes_in, writes_left}
use Rattle.macho_fixups.proofs.streams.Streams.next_write.Given as goal

-- the streams that were passed write nothing more
abbrev pub invariant-loop-one : goal.invariant-loop-one
invariant-loop-one l = record {
  same : writes_left (bytes_in l.self) l.initial.at ≡ writes_left (bytes_in l.self) l.at;
  rises : l.initial.at.stream ≤ l.at.stream;
}

abbrev pub decreases-loop-one : goal.decreases-loop-one
decreases-loop-one l = 4 - l.at.stream
