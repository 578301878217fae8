use Rattle.std.proofs.Common.{◌≡◌, ◌∙◌, ℕ, List, Some, None, ap, lit<, refl, sym, subst}
use Rattle.std.specs.Option.{option_map}
use Rattle.macho_fields.specs.Bytes.{bytes_of}
use Rattle.macho_fields.specs.Image.{commands_of}
use Rattle.macho_fields.specs.LoadCommands.{structure_of, linkedit_data_table}
use Rattle.macho_fields.specs.Symbol.{table_at}
use Rattle.macho_fields.specs.declared.load_command.Structure.TheVariants.{LinkeditDataCommand}
use Rattle.macho_fields.specs.declared.load_command.TableFields.{TableFields}
use Rattle.macho_image.specs.Command.{first_with_cmd}
use Rattle.macho_rows.specs.Rows.{HasUnbrokenHeaders}
use Rattle.macho_spans.specs.declared.span.Span.{Span}
use Rattle.macho_tables.proofs.NamedTables.{LieInside, bounds_opened}
use Rattle.macho_tables.proofs.Places.{named_first}
use Rattle.macho_tables.specs.Homes.{bytes_of_table}
use Rattle.macho_explain.proofs.Wholes.{opened_of}
use Rattle.macho_explain.proofs.whole.data_table.Goals as goal

inside : (image bytes : List ℕ) (cmd command : ℕ) → structure_of cmd ≡ Some LinkeditDataCommand → first_with_cmd image cmd (commands_of image) ≡ Some command → HasUnbrokenHeaders bytes None → image ≡ bytes
    → LieInside image command linkedit_data_table
inside image bytes cmd command is first kept same =
    let opened = opened_of image bytes kept same in
    bounds_opened image opened command LinkeditDataCommand (named_first image (λ n. structure_of n ≡ Some LinkeditDataCommand) cmd is command first) linkedit_data_table (0, lit< tt, refl)

pub span_of-span-requires-clause-place : goal.span_of-span-requires-clause-place
span_of-span-requires-clause-place c =
    rw c.bounded_at.ensures (inside c.in_ok-image.image (bytes_of c.args.sliced.now.held.bytes) c.args.cmd c.in_ok-command.command c.requires (sym c.first_place.ensures ∙ c.in_ok-command.was) c.in_ok-image.ensures.0 c.in_ok-image.ensures.1).0

pub span_of-span-requires-clause-count : goal.span_of-span-requires-clause-count
span_of-span-requires-clause-count c =
    rw c.bounded_at.ensures (inside c.in_ok-image.image (bytes_of c.args.sliced.now.held.bytes) c.args.cmd c.in_ok-command.command c.requires (sym c.first_place.ensures ∙ c.in_ok-command.was) c.in_ok-image.ensures.0 c.in_ok-image.ensures.1).1

-- no command names one
pub returns-in_err-command : goal.returns-in_err-command
returns-in_err-command c = rw c.from_residual-in_err-command.ensures (λ opens.
    let none = sym c.first_place.ensures ∙ c.in_err-command.was in
    let first = subst (λ (b : List ℕ). first_with_cmd b c.args.cmd (commands_of b) ≡ None) c.in_ok-image.ensures.1 none in
    rw first refl)

-- the table that was read is the one that is named
is_named : (image bytes : List ℕ) (cmd command : ℕ) (fields : TableFields) (span : Span) → first_with_cmd image cmd (commands_of image) ≡ Some command → image ≡ bytes → fields ≡ linkedit_data_table
    → span ≡ bytes_of_table (table_at image command fields) → option_map (λ k. bytes_of_table (table_at bytes k linkedit_data_table)) (first_with_cmd bytes cmd (commands_of bytes)) ≡ Some span
is_named image bytes cmd command fields span first same bounded is =
    let named = subst (λ (b : List ℕ). first_with_cmd b cmd (commands_of b) ≡ Some command) same first in
    let read = is ∙ (ap (λ (f : TableFields). bytes_of_table (table_at image command f)) bounded ∙ ap (λ (b : List ℕ). bytes_of_table (table_at b command linkedit_data_table)) same) in
    rw named (ap Some (sym read))

pub returns : goal.returns
returns c =
    rw c.bounded.ensures.span (is_named c.in_ok-image.image (bytes_of c.args.sliced.now.held.bytes) c.args.cmd c.in_ok-command.command c.bounded_at.result c.span_of-span.result
    (sym c.first_place.ensures ∙ c.in_ok-command.was) c.in_ok-image.ensures.1 c.bounded_at.ensures c.span_of-span.ensures)
