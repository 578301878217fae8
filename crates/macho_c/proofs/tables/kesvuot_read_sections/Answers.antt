use Rattle.std.proofs.Common.{ap}
use Rattle.std.specs.Prelude.{flat_map}
use Rattle.macho_rows.specs.Image.{image_in}
use Rattle.macho_rows.specs.Sections.{section_rows}
use Rattle.macho_rows.proofs.AllCommands.{has_opened, segments_wanted}
use Rattle.macho_c.proofs.tables.kesvuot_read_sections.Goals as goal

pub returns-clause-all : goal.returns-clause-all
returns-clause-all c = λ kept.
    let image = image_in c.args.file.now c.args.image.now in
    ap (flat_map (section_rows c.args.image.now.slice.offset image)) (segments_wanted image (has_opened image kept))
