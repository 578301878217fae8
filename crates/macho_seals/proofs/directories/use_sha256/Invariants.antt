use Rattle.std.proofs.Common.{◌<◌, ℕ, get_or, None}
use Rattle.std.specs.Prelude.{IfSome}
use Rattle.macho_seals.specs.SideBySide.{UsesNoSha256}
use Rattle.macho_seals.proofs.directories.use_sha256.Given as goal

-- those before it have no such hashes
abbrev pub invariant-loop-directory : goal.invariant-loop-directory
invariant-loop-directory l = (n : ℕ) → n < l.directory-index → IfSome (get_or l.directories n None) (UsesNoSha256 l.page_size)
