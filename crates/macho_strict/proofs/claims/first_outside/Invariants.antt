use Rattle.macho_rules.proofs.Searches.{Searching}
use Rattle.macho_strict.specs.Rules.{EndsPast}
use Rattle.macho_strict.proofs.ElementPlaces.{place_of}
use Rattle.macho_strict.proofs.claims.first_outside.Given as goal

-- each element that ends past the image is left
abbrev pub invariant-loop-element : goal.invariant-loop-element
invariant-loop-element l = Searching place_of (EndsPast l.image) l.initial.element-iterator l.element-iterator
