use Rattle.std.proofs.Common.{◌++◌, ℕ, List}
use Rattle.macho_strict.specs.Claims.{AreNoted}
use Rattle.macho_strict.specs.ElementWalk.{section_elements_left}
use Rattle.macho_strict.specs.declared.elements.Element.{Element}
use Rattle.macho_strict.proofs.claims.Noted.note_sections.Given as goal

-- the elements of the sections that were yielded are noted after any others
abbrev pub invariant-loop-section : goal.invariant-loop-section
invariant-loop-section l =
    (image : List ℕ) (elements : List Element) → AreNoted image elements l.initial.self → AreNoted image (elements ++ section_elements_left l.yielded) l.self
