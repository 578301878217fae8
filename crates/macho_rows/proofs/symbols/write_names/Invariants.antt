use Rattle.std.proofs.Common.{◌≡◌, ◌≤◌, ◌-◌, map, take, drop}
use Rattle.macho_fields.specs.Bytes.{bytes_of}
use Rattle.macho_rows.specs.Symbols.{name_of}
use Rattle.macho_rows.proofs.symbols.write_names.Given as goal

-- the first symbols have the first names, and the others are as they were
abbrev pub invariant-loop-written : goal.invariant-loop-written
invariant-loop-written l = record {
  room : l.written ≤ l.count;
  names : take l.written l.names ≡ map (name_of (bytes_of l.held.bytes) l.image) (take l.written l.symbols);
  rest : drop l.written l.names ≡ drop l.written l.initial.names;
}

abbrev pub decreases-loop-written : goal.decreases-loop-written
decreases-loop-written l = l.count - l.written
