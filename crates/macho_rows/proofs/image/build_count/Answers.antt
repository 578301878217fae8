use Rattle.std.proofs.Common.{length, map, ap, arith, ◌∙◌}
use Rattle.std.proofs.lemmas.List.{length-map}
use Rattle.macho_rows.specs.Builds.{builds_left, builds_in, build_row}
use Rattle.macho_rows.specs.Cursor.{start}
use Rattle.macho_rows.proofs.AllCommands.{builds_few, builds_wanted}
use Rattle.macho_rows.proofs.image.build_count.Goals as goal

pub count-requires : goal.count-requires
count-requires c =
    let few = builds_few c.args.image.now c.requires.opened in
    omega (arith, few, ap (λ bytes. length (builds_left bytes start)) c.requires.bytes, c.command_count.ensures)

pub returns : goal.returns
returns c =
    let image = c.args.image.now in
    c.count.ensures ∙ (ap (λ bytes. length (builds_left bytes start)) c.requires.bytes
    ∙ (ap (λ places. length (map (build_row image) places)) (builds_wanted image c.requires.opened)
    ∙ length-map (builds_in image) (build_row image)))
