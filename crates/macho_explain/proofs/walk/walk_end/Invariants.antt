use Rattle.std.proofs.Common.{◌≡◌, ◌≤◌, ℕ, length, drop}
use Rattle.macho_fields.specs.Bytes.{bytes_of}
use Rattle.macho_fields.specs.Image.{Follow, IsChain}
use Rattle.macho_explain.specs.Explain.{all_loads}
use Rattle.macho_rows.specs.Loads.{wanted_left}
use Rattle.macho_rows.specs.declared.load.Wanted.TheVariants as wanted
use Rattle.macho_explain.proofs.walk.walk_end.Given as goal

-- so many commands were passed, and the others follow from the place on
abbrev pub invariant-loop-load : goal.invariant-loop-load
invariant-loop-load l = record {
  left : drop l.count (all_loads (bytes_of l.image)) ≡ wanted_left wanted.All (bytes_of l.image) l.cursor;
  few : l.count ≤ length (all_loads (bytes_of l.image));
  follow : (place : ℕ) → IsChain (bytes_of l.image) (all_loads (bytes_of l.image)) place
      → Follow (bytes_of l.image) l.place (wanted_left wanted.All (bytes_of l.image) l.cursor) place;
}

abbrev pub decreases-loop-load : goal.decreases-loop-load
decreases-loop-load l = length (wanted_left wanted.All (bytes_of l.image) l.cursor)
