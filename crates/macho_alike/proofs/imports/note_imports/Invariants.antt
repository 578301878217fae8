use Rattle.macho_alike.specs.LookUps.{WereNoted}
use Rattle.macho_alike.proofs.ImportLookUps.{ImportsBelow}
use Rattle.macho_alike.proofs.imports.note_imports.Given as goal

-- what the imports before this one look up is noted
abbrev pub invariant-loop-index : goal.invariant-loop-index
invariant-loop-index g l = WereNoted g.N.Notes.are_of (ImportsBelow l.chains.bytes.now l.header l.index) l.initial.notes l.notes
