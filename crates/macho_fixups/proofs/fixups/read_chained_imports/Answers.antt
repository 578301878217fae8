use Rattle.std.proofs.Common.{◌≡◌, ℕ, List, [], Option, ◌∙◌, sym, ap, subst}
use Rattle.std.specs.Option.{option_map_or}
use Rattle.macho_chains.specs.declared.chain_header.ChainHeader.{ChainHeader}
use Rattle.macho_fields.specs.Bytes.{bytes_of}
use Rattle.macho_rows.specs.declared.span.Held.{Held}
use Rattle.macho_fixups.specs.Batch.{IsBatch}
use Rattle.macho_fixups.specs.ChainedImports.{imports_left}
use Rattle.macho_fixups.specs.Fixups.{chained_imports_left}
use Rattle.macho_fixups.specs.declared.cursor.KesvuotFixupCursor.{KesvuotFixupCursor}
use Rattle.macho_fixups.specs.declared.row.KesvuotImport.{KesvuotImport}
use Rattle.macho_fixups.proofs.Joined.{no_batch}
use Rattle.macho_fixups.proofs.fixups.read_chained_imports.Goals as goal

-- what is left, by the header of the table
abbrev Left : ℕ → List ℕ → Option ChainHeader → KesvuotFixupCursor → List KesvuotImport
Left place table = λ found cursor. option_map_or (λ header. imports_left place table header cursor) found []

pub returns-in-Some : goal.returns-in-Some
returns-in-Some c =
    let table = c.args.table in
    let imports = c.in-Some.imports in
    let (same, is) = c.in-Some.ensures in
    subst (λ (left : KesvuotFixupCursor → List KesvuotImport). IsBatch left c.args.cursor.now c.fill.new.cursor c.fill.result c.args.rows.now c.fill.new.rows)
    (ap (λ (held : Held). let left : KesvuotFixupCursor → List KesvuotImport = λ cursor. imports_left held.place (bytes_of held.bytes) imports.header cursor in left) same
    ∙ sym (ap (Left table.place (bytes_of table.bytes)) is)) c.fill.ensures

pub returns-in-None : goal.returns-in-None
returns-in-None c =
    let table = c.args.table in
    no_batch (chained_imports_left table.place (bytes_of table.bytes)) c.args.cursor.now c.args.rows.now
    (ap (λ found. Left table.place (bytes_of table.bytes) found c.args.cursor.now) c.in-None.ensures)
