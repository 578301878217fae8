use Rattle.std.proofs.Common.{◌≡◌, ℕ, ◌<◌, length, drop}
use Rattle.std.specs.Prelude.{slice_get, Some}
use Rattle.macho_fields.specs.Bytes.{bytes_of}
use Rattle.macho_explain.specs.Explain.{all_loads, sections_before, Meets}
use Rattle.macho_rows.specs.Loads.{wanted_left}
use Rattle.macho_rows.specs.declared.load.Wanted.TheVariants as wanted
use Rattle.macho_explain.proofs.walk.walk_to.Given as goal

-- so many commands were passed, with their sections, and none of them is sought
abbrev pub invariant-loop-load : goal.invariant-loop-load
invariant-loop-load l = record {
  left : drop l.index (all_loads (bytes_of l.image)) ≡ wanted_left wanted.All (bytes_of l.image) l.cursor;
  sections : l.sections ≡ sections_before (bytes_of l.image) l.index;
  passed : (k command : ℕ) → k < l.index → slice_get (all_loads (bytes_of l.image)) k ≡ Some command → ¬ Meets (bytes_of l.image) l.sought command;
}

abbrev pub decreases-loop-load : goal.decreases-loop-load
decreases-loop-load l = length (wanted_left wanted.All (bytes_of l.image) l.cursor)
