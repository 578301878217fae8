use Rattle.std.proofs.Common.{◌<◌, ℕ}
use Rattle.macho_seals.proofs.SharedSpecials.{LackSpecial}
use Rattle.macho_seals.proofs.specials.first_other_special.Given as goal

-- all have the hashes of the blobs before it
abbrev pub invariant-loop-index : goal.invariant-loop-index
invariant-loop-index l = (j : ℕ) → j < l.index → ¬ LackSpecial l.signature.bytes.now l.directories j
