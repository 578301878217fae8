use Rattle.std.proofs.Common.{ℕ, ◌<◌, ◌↔◌, get_or, IsTrue}
use Rattle.macho_text.specs.Name.{is_plain}
use Rattle.macho_text.proofs.name.are_plain.Given as goal

-- the answer for the bytes before the index
abbrev pub invariant-loop-byte : goal.invariant-loop-byte
invariant-loop-byte l = IsTrue l.plain ↔ ((k : ℕ) → k < l.byte-index → IsTrue (is_plain (get_or l.bytes k 0)))
