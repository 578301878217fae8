use Rattle.std.proofs.Common.{◌∙◌, Option, subst}
use Rattle.macho_alike.specs.NotedLibraries.{IsWith, AreKnown}
use Rattle.macho_alike.specs.declared.imports.Libraries.{Libraries}
use Rattle.macho_alike.proofs.NotedLibraries.{with_by, known_more}
use Rattle.macho_alike.proofs.NotedLookUps.{noted_one}
use Rattle.macho_alike.proofs.imports.KnownNotes.note.Goals as goal

pub returns : goal.returns
returns c =
    let noted = with_by c.args.self.now c.insert.new.self c.args.name.now c.args.library c.with_library-libraries.result c.in_ok-insert.ensures.updates
    (subst (λ (o : Option Libraries). IsWith o c.args.library c.with_library-libraries.result) (c.copied.ensures ∙ c.get.ensures.value) c.with_library-libraries.ensures) in
    noted_one AreKnown c.args.name.now c.args.library c.args.self.now c.insert.new.self
    (λ before are. known_more before c.args.self.now c.insert.new.self c.args.name.now c.args.library noted are)
