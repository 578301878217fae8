-- Parts of the bytes of a file.
use Rattle.std.proofs.Common.{ℕ, ◌+◌, ◌^◌, ◌<◌, List, length, drop, inl, inr, arith, length-take, length-drop}
use Rattle.std.specs.Prelude.{nat_le}
use Rattle.std.proofs.lemmas.Bool.{leb-true, cases_Bool}
use Rattle.macho_rows.specs.Spans.{part_or_none}

-- a part of bytes ends where a number of 64 bits can say
pub part_fits : (start len : ℕ) (bytes : List ℕ) → start < 2 ^ 64 → length bytes < 2 ^ 64 → start + length (part_or_none start len bytes) < 2 ^ 64
part_fits start len bytes low few = elim (cases_Bool (nat_le (start + len) (length bytes))) [
  | inl inside ↦ rw inside (omega (arith, leb-true _ _ inside, length-take len (drop start bytes), length-drop start bytes))
  | inr past ↦ rw past (omega arith)
]
