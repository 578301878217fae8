use Rattle.std.proofs.Common.{◌≡◌, ◌+◌, ◌<◌, ◌-◌, true, false, sym, ap, arith, refl, ◌∙◌}
use Rattle.macho_fields.specs.Bytes.{bytes_of}
use Rattle.macho_fields.specs.Image.{command_count}
use Rattle.macho_rows.specs.Loads.{is_command, next_place}
use Rattle.macho_rows.specs.declared.cursor.KesvuotCursor.{KesvuotCursor}
use Rattle.macho_rows.proofs.Loads.{none_from, step_left}
use Rattle.macho_rows.proofs.load.next_load.Goals as goal

pub returns-in_err-load-clause-first : goal.returns-in_err-load-clause-first
returns-in_err-load-clause-first c =
    let image = bytes_of c.args.image in
    let is : is_command image (next_place c.args.cursor.now) ≡ false = ap (is_command image) (sym c.place_of.ensures) ∙ sym c.in_err-load.ensures.found in
    let none = none_from image (next_place c.args.cursor.now) (command_count image - c.args.cursor.now.commands) is in
    rw c.from_residual.ensures (none, none)

pub returns-clause-first : goal.returns-clause-first
returns-clause-first c =
    let image = bytes_of c.args.image in
    let load = c.in_ok-load.load in
    let is : is_command image load.place ≡ true = ap (is_command image) c.in_ok-load.ensures.some.0 ∙ sym c.in_ok-load.ensures.found in
    let less : c.args.cursor.now.commands < command_count image = omega (arith, c.if-cursor-from.false, c.from.ensures, c.read_u32.ensures) in
    let before = c.args.cursor.now in
    let after : KesvuotCursor = record { place = load.place + load.size; commands = before.commands + 1; segment = before.segment; items = before.items } in
    step_left image before after load.place load.size (c.in_ok-load.ensures.some.0 ∙ c.place_of.ensures) is c.in_ok-load.ensures.some.1.size less refl refl
