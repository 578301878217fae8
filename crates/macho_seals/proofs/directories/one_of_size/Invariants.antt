use Rattle.std.proofs.Common.{◌<◌, ℕ, get_or, None}
use Rattle.std.specs.Prelude.{IfSome}
use Rattle.macho_seals.specs.Directories.{HasOtherSize}
use Rattle.macho_seals.proofs.directories.one_of_size.Given as goal

-- those before it have pages of other sizes
abbrev pub invariant-loop-directory : goal.invariant-loop-directory
invariant-loop-directory l = (n : ℕ) → n < l.directory-index → IfSome (get_or l.directories n None) (HasOtherSize l.page_size)
