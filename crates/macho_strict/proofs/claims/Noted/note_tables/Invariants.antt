use Rattle.std.proofs.Common.{◌++◌, ℕ, List}
use Rattle.macho_strict.specs.Claims.{AreNoted}
use Rattle.macho_strict.specs.declared.elements.Element.{Element}
use Rattle.macho_strict.proofs.claims.Noted.note_tables.Given as goal

-- the tables that were yielded are noted after any others
abbrev pub invariant-loop-element : goal.invariant-loop-element
invariant-loop-element l =
    (image : List ℕ) (elements : List Element) → AreNoted image elements l.initial.self → AreNoted image (elements ++ l.yielded) l.self
