use Rattle.std.proofs.Common.{rules}
use Rattle.macho_rows.specs.Image.{image_in}
use Rattle.macho_rows.proofs.AllCommands.{has_opened, versions_wanted}
use Rattle.macho_c.proofs.source_version.kesvuot_find_source_version.Goals as goal

pub returns-in-Some-clause-all : goal.returns-in-Some-clause-all
returns-in-Some-clause-all c = λ kept.
    let image = image_in c.args.file.now c.args.image.now in
    versions_wanted image (has_opened image kept)

-- Found without this answer; with it a wrong body fails at once.
pub returns-in-None-clause-answer : goal.returns-in-None-clause-answer
returns-in-None-clause-answer c = search rules

pub returns-in-None-clause-all : goal.returns-in-None-clause-all
returns-in-None-clause-all c = λ kept.
    let image = image_in c.args.file.now c.args.image.now in
    versions_wanted image (has_opened image kept)
