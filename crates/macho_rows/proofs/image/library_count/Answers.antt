use Rattle.std.proofs.Common.{length, map, ap, arith, ◌∙◌}
use Rattle.std.proofs.lemmas.List.{length-map}
use Rattle.macho_rows.specs.Cursor.{start}
use Rattle.macho_rows.specs.Libraries.{libraries_left, library_row, loaded_by}
use Rattle.macho_rows.proofs.AllCommands.{libraries_few, libraries_wanted}
use Rattle.macho_rows.proofs.image.library_count.Goals as goal

pub count-requires : goal.count-requires
count-requires c =
    let held = c.args.held.now in
    let few = libraries_few c.args.image.now c.requires.opened held.place in
    omega (arith, few, ap (λ bytes. length (libraries_left held.place bytes start)) c.requires.bytes, c.command_count.ensures)

pub returns : goal.returns
returns c =
    let held = c.args.held.now in
    let image = c.args.image.now in
    c.count.ensures ∙ (ap (λ bytes. length (libraries_left held.place bytes start)) c.requires.bytes
    ∙ (ap (λ places. length (map (library_row held.place image) places)) (libraries_wanted image c.requires.opened)
    ∙ length-map (loaded_by image) (library_row held.place image)))
