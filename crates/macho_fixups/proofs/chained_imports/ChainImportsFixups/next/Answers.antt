use Rattle.std.proofs.Common.{◌∙◌, ◌∷◌, ◌+◌, ap, sym, refl, arith}
use Rattle.macho_fields.specs.Bytes.{bytes_of}
use Rattle.macho_fixups.specs.ChainedImports.{imports_left}
use Rattle.macho_fixups.specs.declared.cursor.KesvuotFixupCursor.{KesvuotFixupCursor}
use Rattle.macho_fixups.proofs.ChainImportRows.{imports_none, imports_next, listed_parts}
use Rattle.macho_fixups.proofs.chained_imports.ChainImportsFixups.next.Goals as goal

pub returns-in_err-row : goal.returns-in_err-row
returns-in_err-row c =
    let table = c.args.self.now.table in
    let none = imports_none table.place (bytes_of table.bytes) c.args.self.now.header c.args.cursor.now c.in_err-row.ensures.row in
    rw c.from_residual.ensures (none, none)

pub overflow_add-cursor : goal.overflow_add-cursor
overflow_add-cursor c =
    let (_, total) = listed_parts c.args.self.now.table.place (bytes_of c.args.self.now.table.bytes) c.args.self.now.header c.args.cursor.now.name_size c.args.cursor.now.import c.in_ok-row.ensures.row.0 in
    let size = c.in_ok-row.ensures.row.2 in
    let fits = c.len.ensures.fits in
    omega (arith, total, size, fits)

pub overflow_add-cursor-2 : goal.overflow_add-cursor-2
overflow_add-cursor-2 c = let near = c.in_ok-row.ensures.near in omega (arith, near)

pub returns : goal.returns
returns c =
    let table = c.args.self.now.table in
    let before = c.args.cursor.now in
    let after : KesvuotFixupCursor = record before { name_size = before.name_size + c.in_ok-row.size; import = before.import + 1 } in
    imports_next table.place (bytes_of table.bytes) c.args.self.now.header before after c.in_ok-row.ensures.row.0
    (ap (λ n. before.name_size + n) c.in_ok-row.ensures.row.2) refl
    ∙ ap (λ row. row ∷ imports_left table.place (bytes_of table.bytes) c.args.self.now.header after) (sym c.in_ok-row.ensures.row.1)
