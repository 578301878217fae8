use Rattle.std.proofs.Common.{◌∙◌, sym, subst}
use Rattle.macho_fields.specs.Bytes.{bytes_of}
use Rattle.macho_image.specs.Views.{HoldItems}
use Rattle.macho_image.proofs.Ranges.{inside_all, items_held}
use Rattle.macho_image.proofs.items.Items.inside.Goals as goal

pub returns-then-contains_table-clause-items : goal.returns-then-contains_table-clause-items
returns-then-contains_table-clause-items c = c.new.ensures ∙ inside_all (bytes_of c.args.image) c.args.place c.args.each c.args.count (c.contains_table.ensures.0 c.if-contains_table.true)

pub returns-then-contains_table-clause-held : goal.returns-then-contains_table-clause-held
returns-then-contains_table-clause-held c =
    let image = bytes_of c.args.image in
    subst (HoldItems image c.args.each) (sym c.new.ensures) (items_held image c.args.each c.args.place c.args.count (c.contains_table.ensures.0 c.if-contains_table.true))
