use Rattle.std.proofs.Common.{◌≡◌, ℕ, List, [], Option, Some, None, inr, refl, ◌∙◌, sym, ap, subst}
use Rattle.std.specs.Option.{option_map_or}
use Rattle.macho_chains.specs.declared.chain_header.ChainHeader.{ChainHeader}
use Rattle.macho_fields.specs.Bytes.{bytes_of}
use Rattle.macho_fields.specs.declared.bytes.Bytes.{Bytes}
use Rattle.macho_fixups.specs.Batch.{IsBatch}
use Rattle.macho_fixups.specs.ChainedFixups.{fixups_left}
use Rattle.macho_fixups.specs.Fixups.{chained_fixups_left}
use Rattle.macho_fixups.specs.declared.cursor.KesvuotFixupCursor.{KesvuotFixupCursor}
use Rattle.macho_fixups.specs.declared.row.KesvuotFixup.{KesvuotFixup}
use Rattle.macho_fixups.proofs.Joined.{no_batch}
use Rattle.macho_fixups.proofs.fixups.read_chained_fixups.Goals as goal

-- what is left, by the header of the table
abbrev Left : ℕ → List ℕ → List ℕ → Option ChainHeader → KesvuotFixupCursor → List KesvuotFixup
Left base image table = λ found cursor. option_map_or (λ header. fixups_left image base table header cursor) found []

pub returns-in-Some : goal.returns-in-Some
returns-in-Some c =
    let base = c.args.base in
    let image = bytes_of c.args.image.now.bytes in
    let table = bytes_of c.args.table.now.bytes in
    let chains = c.in-Some.chains in
    let (is, same, begins, read) = c.in-Some.ensures in
    let fixups : ℕ → List ℕ → List ℕ → KesvuotFixupCursor → List KesvuotFixup = λ b i t cursor. fixups_left i b t chains.header cursor in
    subst (λ (left : KesvuotFixupCursor → List KesvuotFixup). IsBatch left c.args.cursor.now c.fill.new.cursor c.fill.result c.args.rows.now c.fill.new.rows)
    (ap (λ (i : Bytes). fixups chains.base (bytes_of i) (bytes_of chains.table)) same
    ∙ (ap (λ (b : ℕ). fixups b image (bytes_of chains.table)) begins
    ∙ (ap (λ (t : Bytes). fixups base image (bytes_of t)) read ∙ sym (ap (Left base image table) is)))) c.fill.ensures

pub returns-in-None : goal.returns-in-None
returns-in-None c =
    let base = c.args.base in
    let image = bytes_of c.args.image.now.bytes in
    let table = bytes_of c.args.table.now.bytes in
    no_batch (chained_fixups_left base image table) c.args.cursor.now c.args.rows.now (ap (λ found. Left base image table found c.args.cursor.now) c.in-None.ensures)
