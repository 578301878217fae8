use Rattle.std.proofs.Common.{[], refl}
use Rattle.macho_alike.specs.Imports.{IsLookUp}
use Rattle.macho_alike.proofs.NotedLibraries.{known_none, known_all}
use Rattle.macho_alike.proofs.imports.import_library.Goals as goal

pub returns-then-agreed-clause-least : goal.returns-then-agreed-clause-least
returns-then-agreed-clause-least c = λ place broken. c.in_ok-agreed.ensures.agree c.if-agreed.true place broken.1

pub first_from_other-requires-clause-noted : goal.first_from_other-requires-clause-noted
first_from_other-requires-clause-noted c =
    let (looks, listed, are) = c.in_ok-note_look_ups.ensures.noted [] (known_none c.new-known.result (λ name. rw c.new-known.ensures.empty refl)) in
    known_all (IsLookUp c.args.image.now) looks c.note_look_ups.new.notes listed are
