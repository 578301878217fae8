use Rattle.std.proofs.Common.{◌≡◌, ◌∙◌, ap}
use Rattle.std.proofs.lemmas.Option.{same_Some}
use Rattle.std.specs.Option.{option_and_then}
use Rattle.macho_fields.specs.Bytes.{bytes_of}
use Rattle.macho_rows.specs.BoundedTables.{bounds_of, table_in_file}
use Rattle.macho_rows.specs.Loads.{first_wanted}
use Rattle.macho_rows.specs.declared.bounded_tables.Bounds.{Bounds}
use Rattle.macho_rows.proofs.BoundedTables.{fields_held}
use Rattle.macho_rows.proofs.bounded_tables.found_table.Goals as goal

pub table_at-requires : goal.table_at-requires
table_at-requires c =
    let image = bytes_of c.args.image.now.bytes in
    let bounds = c.in_ok-bounds.bounds in
    let is : bounds ≡ bounds_of c.args.table = same_Some bounds (bounds_of c.args.table) c.in_ok-bounds.ensures in
    let (place, count) = fields_held image c.in_ok-load.load c.args.table bounds is c.in_ok-load.ensures.load.0 c.in_ok-load.ensures.load.1 in
    record { place = place; count = count }

pub returns : goal.returns
returns c =
    let held = c.args.image.now in
    let image = bytes_of held.bytes in
    let bounds = c.in_ok-bounds.bounds in
    let is : bounds ≡ bounds_of c.args.table = same_Some bounds (bounds_of c.args.table) c.in_ok-bounds.ensures in
    c.table_at.ensures
    ∙ (ap (option_and_then (λ command. table_in_file held.place image command bounds.fields)) c.in_ok-load.ensures.first
    ∙ ap (λ (b : Bounds). option_and_then (λ command. table_in_file held.place image command b.fields) (first_wanted b.wanted image)) is)
