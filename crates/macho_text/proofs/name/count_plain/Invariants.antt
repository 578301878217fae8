use Rattle.std.proofs.Common.{ℕ, ◌<◌, get_or, IsTrue}
use Rattle.macho_text.specs.Name.{is_plain}
use Rattle.macho_text.proofs.name.count_plain.Given as goal

-- the bytes before the index are plain
abbrev pub invariant-loop-index : goal.invariant-loop-index
invariant-loop-index l = (k : ℕ) → k < l.index → IsTrue (is_plain (get_or l.bytes k 0))
