use Rattle.std.proofs.Common.{◌≡◌, length}
use Rattle.macho_fields.specs.Bytes.{bytes_of}
use Rattle.macho_rows.specs.Loads.{commands_left, wanted_left}
use Rattle.macho_rows.proofs.load.next_wanted.Given as goal

-- only commands that are not wanted were skipped
abbrev pub invariant-loop-load : goal.invariant-loop-load
invariant-loop-load l = record {
  left : wanted_left l.wanted (bytes_of l.image) l.initial.cursor ≡ wanted_left l.wanted (bytes_of l.image) l.cursor;
  segment : l.cursor.segment ≡ l.initial.cursor.segment;
  items : l.cursor.items ≡ l.initial.cursor.items;
}

abbrev pub decreases-loop-load : goal.decreases-loop-load
decreases-loop-load l = length (commands_left (bytes_of l.image) l.cursor)
