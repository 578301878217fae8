use Rattle.std.proofs.Common.{◌∙◌, ◌+◌, ◌-◌, ap, refl, arith}
use Rattle.macho_fields.specs.Bytes.{bytes_of}
use Rattle.macho_tables.specs.FunctionStarts.{next_start}
use Rattle.macho_rows.specs.declared.cursor.KesvuotCursor.{KesvuotCursor}
use Rattle.macho_c.proofs.Started.{part_ends, none_left, next_left}
use Rattle.macho_c.proofs.function_starts.FunctionStartsTable.next.Goals as goal

pub returns-in_err-start : goal.returns-in_err-start
returns-in_err-start c =
    let table = c.args.self.now in
    let at = c.begun-at.result in
    let held = c.new.ensures ∙ c.part_or_none-data.ensures in
    let none = none_left (bytes_of table.bytes) table.image.now c.args.cursor.now at c.begun-at.ensures (c.in_err-start.ensures.next ∙ ap (λ bytes. next_start bytes at.segment) held) in
    rw c.from_residual.ensures (none, none)

pub overflow_add-cursor : goal.overflow_add-cursor
overflow_add-cursor c =
    let image = bytes_of c.args.self.now.bytes in
    let at = c.begun-at.result in
    let held = c.new.ensures ∙ c.part_or_none-data.ensures in
    let (some, most) = c.in_ok-start.ensures.size in
    let ends = part_ends image at.place at.items c.in_ok-start.size some (rw held at most) in
    omega (arith, ends, c.len.ensures.fits)

pub returns : goal.returns
returns c =
    let table = c.args.self.now in
    let before = c.args.cursor.now in
    let at = c.begun-at.result in
    let start = c.in_ok-start.start in
    let size = c.in_ok-start.size in
    let after : KesvuotCursor = record { place = at.place + size; commands = before.commands; segment = start; items = at.items - size } in
    let held = c.new.ensures ∙ c.part_or_none-data.ensures in
    let (some, most) = c.in_ok-start.ensures.size in
    next_left (bytes_of table.bytes) table.image.now before at after start size c.begun-at.ensures (c.in_ok-start.ensures.next ∙ ap (λ bytes. next_start bytes at.segment) held) some (rw held at most) refl refl refl
