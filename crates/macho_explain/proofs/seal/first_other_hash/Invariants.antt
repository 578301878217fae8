use Rattle.std.proofs.Common.{◌+◌, ◌≤◌, ◌<◌, ℕ}
use Rattle.macho_fields.specs.Bytes.{bytes_of}
use Rattle.macho_explain.specs.Seals.{directories_before, DiffersAt, IsOther}
use Rattle.macho_explain.proofs.seal.first_other_hash.Given as goal

-- no more directories were looked at than there are before, and none of them differs
abbrev pub invariant-loop-index : goal.invariant-loop-index
invariant-loop-index l =
    let signature = bytes_of l.signature.bytes in
    (6 ≤ l.left + directories_before signature l.index)
    × ((j : ℕ) → j < l.index → ¬ DiffersAt (IsOther (bytes_of l.sliced.held.bytes) signature l.hashed) l.signature.table.span.start signature j)
