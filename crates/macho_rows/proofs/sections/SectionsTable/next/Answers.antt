use Rattle.std.proofs.Common.{refl, sym, ◌∙◌}
use Rattle.macho_fields.specs.Bytes.{bytes_of}
use Rattle.macho_rows.specs.Loads.{wanted_left}
use Rattle.macho_rows.specs.declared.cursor.KesvuotCursor.{KesvuotCursor}
use Rattle.macho_rows.specs.declared.load.Wanted.TheVariants as wanted
use Rattle.macho_rows.proofs.Reached.{moves_on, same_left}
use Rattle.macho_rows.proofs.sections.SectionsTable.next.Goals as goal

pub loop-row-preserved : goal.loop-row-preserved
loop-row-preserved c =
    let held = c.args.self.now.image in
    let image = bytes_of held.bytes in
    let before = c.loop-row.cursor in
    let left = c.next_wanted.new.cursor in
    let load = c.in_ok-load-in-None.load in
    let after : KesvuotCursor = record { place = left.place; commands = left.commands; segment = load.place; items = 0 } in
    let first = same_left wanted.Segments image before c.next_reached.new.cursor (sym c.next_reached.ensures.place) (sym c.next_reached.ensures.commands) ∙ c.in_ok-load-in-None.ensures.first in
    c.loop-row.invariant
    ∙ moves_on held.place image before after load.place (wanted_left wanted.Segments image left) c.in-None.ensures.first.0 first refl refl refl c.in_ok-load-in-None.ensures.past c.in_ok-load-in-None.ensures.load.0.is c.in_ok-load-in-None.ensures.load.1
