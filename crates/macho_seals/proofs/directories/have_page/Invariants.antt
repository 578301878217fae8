use Rattle.std.proofs.Common.{◌<◌, ℕ, get_or, None}
use Rattle.std.specs.Prelude.{IfSome}
use Rattle.macho_seals.specs.Directories.{HasPageOfSize}
use Rattle.macho_seals.proofs.directories.have_page.Given as goal

-- those before it with pages of this size have the hash
abbrev pub invariant-loop-directory : goal.invariant-loop-directory
invariant-loop-directory l =
    (n : ℕ) → n < l.directory-index → IfSome (get_or l.directories n None) (HasPageOfSize l.page_size l.index l.page)
