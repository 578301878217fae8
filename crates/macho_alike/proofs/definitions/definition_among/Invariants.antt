use Rattle.macho_alike.proofs.DefinitionGroups.{Walked}
use Rattle.macho_alike.proofs.definitions.definition_among.Given as goal

-- the walk has passed so many
abbrev pub invariant-loop-one : goal.invariant-loop-one
invariant-loop-one l = Walked l.image l.names l.one-index l.known l.found
