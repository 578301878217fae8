use Rattle.macho_alike.specs.Imports.{IsOpcodeLookUp, IsChainLookUp, IsLookUp}
use Rattle.macho_alike.proofs.BindLists.{if_ok}
use Rattle.macho_alike.proofs.NotedLookUps.{noted_then}
use Rattle.macho_alike.proofs.imports.note_look_ups.Goals as goal

pub returns-clause-noted : goal.returns-clause-noted
returns-clause-noted g c =
    let image = c.args.image.now in
    if_ok _ _ c.note_chains.result
    (noted_then g.N.Notes.are_of (IsOpcodeLookUp image) (IsChainLookUp image) (IsLookUp image) c.args.notes.now c.note_opcodes.new.notes c.note_chains.new.notes
    (λ name from. (λ is. is, λ is. is)) c.in_ok-note_opcodes.ensures.noted)
    c.note_chains.ensures.noted
