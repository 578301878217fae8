use Rattle.std.proofs.Common.{◌≡◌, ℕ, List, Option, ◌∙◌, sym, ap, subst}
use Rattle.std.specs.Option.{option_map_or}
use Rattle.macho_fields.specs.Bytes.{bytes_of}
use Rattle.macho_fixups.specs.Batch.{IsBatch}
use Rattle.macho_fixups.specs.Fixups.{chained_imports_left, chain_bytes, chain_place, opcode_imports_left}
use Rattle.macho_fixups.specs.declared.cursor.KesvuotFixupCursor.{KesvuotFixupCursor}
use Rattle.macho_fixups.specs.declared.row.KesvuotImport.{KesvuotImport}
use Rattle.macho_fixups.proofs.AllFixups.{imports_begin}
use Rattle.macho_fixups.proofs.fixups.read_imports.Goals as goal

-- what is left, by the command that names chains
abbrev Left : ℕ → List ℕ → Option ℕ → KesvuotFixupCursor → List KesvuotImport
Left place image =
    λ found. option_map_or (λ command. chained_imports_left (chain_place place image command) (chain_bytes image command)) found (opcode_imports_left place image)

pub returns-in-Some-clause-rows : goal.returns-in-Some-clause-rows
returns-in-Some-clause-rows c =
    let held = c.args.image.now in
    let image = bytes_of held.bytes in
    let table = c.in-Some.table in
    let (command, is, bytes, place) = c.in-Some.ensures in
    let call = c.read_chained_imports in
    subst (λ (left : KesvuotFixupCursor → List KesvuotImport). IsBatch left c.args.cursor.now call.new.cursor call.result c.args.rows.now call.new.rows)
    (ap (λ (b : List ℕ). chained_imports_left table.place b) bytes
    ∙ (ap (λ (p : ℕ). chained_imports_left p (chain_bytes image command)) place ∙ sym (ap (Left held.place image) is))) call.ensures

pub returns-in-None-clause-rows : goal.returns-in-None-clause-rows
returns-in-None-clause-rows c =
    let held = c.args.image.now in
    let image = bytes_of held.bytes in
    let call = c.read_opcode_imports in
    subst (λ (left : KesvuotFixupCursor → List KesvuotImport). IsBatch left c.args.cursor.now call.new.cursor call.result c.args.rows.now call.new.rows)
    (sym (ap (Left held.place image) c.in-None.ensures)) call.ensures

pub returns-in-Some-clause-all : goal.returns-in-Some-clause-all
returns-in-Some-clause-all c = imports_begin c.args.image.now.place (bytes_of c.args.image.now.bytes)

pub returns-in-None-clause-all : goal.returns-in-None-clause-all
returns-in-None-clause-all c = imports_begin c.args.image.now.place (bytes_of c.args.image.now.bytes)
