use Rattle.std.proofs.Common.{◌≡◌, ℕ, List, Option, ◌∙◌, sym, ap, subst}
use Rattle.std.specs.Option.{option_map_or}
use Rattle.macho_fields.specs.Bytes.{bytes_of}
use Rattle.macho_fixups.specs.Batch.{IsBatch}
use Rattle.macho_fixups.specs.Fixups.{chained_fixups_left, chain_bytes, opcode_fixups_left}
use Rattle.macho_fixups.specs.declared.cursor.KesvuotFixupCursor.{KesvuotFixupCursor}
use Rattle.macho_fixups.specs.declared.row.KesvuotFixup.{KesvuotFixup}
use Rattle.macho_fixups.proofs.AllFixups.{fixups_begin}
use Rattle.macho_fixups.proofs.fixups.read_fixups.Goals as goal

-- what is left, by the command that names chains
abbrev Left : ℕ → List ℕ → Option ℕ → KesvuotFixupCursor → List KesvuotFixup
Left base image = λ found. option_map_or (λ command. chained_fixups_left base image (chain_bytes image command)) found (opcode_fixups_left image)

pub returns-in-Some-clause-rows : goal.returns-in-Some-clause-rows
returns-in-Some-clause-rows c =
    let base = c.args.base in
    let image = bytes_of c.args.image.now.bytes in
    let (command, is, bytes, place) = c.in-Some.ensures in
    let call = c.read_chained_fixups in
    subst (λ (left : KesvuotFixupCursor → List KesvuotFixup). IsBatch left c.args.cursor.now call.new.cursor call.result c.args.rows.now call.new.rows)
    (ap (λ (table : List ℕ). chained_fixups_left base image table) bytes ∙ sym (ap (Left base image) is)) call.ensures

pub returns-in-None-clause-rows : goal.returns-in-None-clause-rows
returns-in-None-clause-rows c =
    let base = c.args.base in
    let image = bytes_of c.args.image.now.bytes in
    let call = c.read_opcode_fixups in
    subst (λ (left : KesvuotFixupCursor → List KesvuotFixup). IsBatch left c.args.cursor.now call.new.cursor call.result c.args.rows.now call.new.rows)
    (sym (ap (Left base image) c.in-None.ensures)) call.ensures

pub returns-in-Some-clause-all : goal.returns-in-Some-clause-all
returns-in-Some-clause-all c = fixups_begin c.args.base (bytes_of c.args.image.now.bytes)

pub returns-in-None-clause-all : goal.returns-in-None-clause-all
returns-in-None-clause-all c = fixups_begin c.args.base (bytes_of c.args.image.now.bytes)
