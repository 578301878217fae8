use Rattle.std.proofs.Common.{◌<◌, ℕ, get_or, None}
use Rattle.std.specs.Prelude.{IfSome}
use Rattle.macho_seals.specs.Directories.{HasSpecial}
use Rattle.macho_seals.proofs.directories.have_special.Given as goal

-- those before it have the hash
abbrev pub invariant-loop-directory : goal.invariant-loop-directory
invariant-loop-directory l = (n : ℕ) → n < l.directory-index → IfSome (get_or l.directories n None) (HasSpecial l.slot l.message)
