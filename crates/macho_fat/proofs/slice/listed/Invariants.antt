use Rattle.std.proofs.Common.{◌≡◌}
use Rattle.macho_fields.specs.Universal.{entry_count}
use Rattle.std.specs.Vec.{vec_len, vec_capacity}
use Rattle.macho_fat.proofs.Listed.{AreFirst}
use Rattle.macho_fat.proofs.slice.listed.Given as goal

-- the slices belong to the entries gone over, and there is room for one of each entry
abbrev pub invariant-loop-k : goal.invariant-loop-k
invariant-loop-k l = record {
  first : AreFirst l.table l.k l.slices.items;
  len : vec_len l.slices ≡ l.k;
  capacity : vec_capacity l.slices ≡ entry_count l.table;
}
