use Rattle.std.proofs.Common.{◌≡◌, ◌≤◌, length}
use Rattle.macho_explain.specs.Alike.{names_size}
use Rattle.macho_explain.proofs.definition.names_up_to.Given as goal

-- the names that were passed have so many bytes, and no more than the image
abbrev pub invariant-loop-earlier : goal.invariant-loop-earlier
invariant-loop-earlier l = (l.size ≡ names_size l.image l.earlier) × (l.size ≤ length l.image)
