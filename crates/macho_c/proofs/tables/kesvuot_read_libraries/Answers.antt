use Rattle.std.proofs.Common.{map, ap}
use Rattle.macho_rows.specs.Libraries.{library_row}
use Rattle.macho_rows.specs.Image.{image_in}
use Rattle.macho_rows.proofs.AllCommands.{has_opened, libraries_wanted}
use Rattle.macho_c.proofs.tables.kesvuot_read_libraries.Goals as goal

pub returns-clause-all : goal.returns-clause-all
returns-clause-all c = λ kept.
    let image = image_in c.args.file.now c.args.image.now in
    ap (map (library_row c.args.image.now.slice.offset image)) (libraries_wanted image (has_opened image kept))
