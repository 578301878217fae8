use Rattle.std.proofs.Common.{◌≢◌, Option, IfOk, rules, sym, subst}
use Rattle.macho_alike.specs.LookUps.{WereNoted, IsLookedUp, IsLookedUpIn}
use Rattle.macho_alike.specs.declared.binds.Library.{Library}
use Rattle.macho_alike.specs.declared.binds.Library.TheVariants as library
use Rattle.macho_alike.specs.declared.imports.TheConstants as special
use Rattle.macho_alike.proofs.BindLists.{if_ok}
use Rattle.macho_alike.proofs.NotedLookUps.{noted_from}
use Rattle.macho_alike.proofs.imports.note_look_up.Goals as goal

pub returns-in-Some-clause-noted : goal.returns-in-Some-clause-noted
returns-in-Some-clause-noted g c =
    let strong : c.in-Some.library ≢ library.Special special.WEAK_LOOKUP = search rules in
    let noted = subst (λ (l : Library). IfOk c.note.result (λ _. WereNoted g.N.Notes.are_of (IsLookedUp c.args.name.now l) c.args.notes.now c.note.new.self)) c.in-Some.library-is c.note.ensures in
    subst (λ (o : Option Library). IfOk c.note.result (λ _. WereNoted g.N.Notes.are_of (IsLookedUpIn c.args.name.now o) c.args.notes.now c.note.new.self)) (sym c.in-Some.is)
    (if_ok _ _ c.note.result (noted_from g.N.Notes.are_of c.args.name.now c.in-Some.library c.args.notes.now c.note.new.self strong) noted)
