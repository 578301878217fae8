-- What a rule of linked data is about is there, where the rule is broken.
use Rattle.std.proofs.Common.{◌≡◌, ℕ, ◌<◌, List, length, Some, None, inl, inr, ap, refl, sym, arith}
use Rattle.macho_fields.proofs.Options.{of_some, some_of}
use Rattle.macho_fields.specs.Field.{part}
use Rattle.macho_fields.specs.Image.{commands_of}
use Rattle.macho_fields.specs.Layers.{NothingBreaks}
use Rattle.macho_fields.specs.LoadCommands.{structure_of, linkedit_data_table}
use Rattle.macho_fields.specs.Rules.{BreaksImage}
use Rattle.macho_fields.specs.Segment.{base_of}
use Rattle.macho_fields.specs.Symbol.{table_at}
use Rattle.macho_fields.specs.declared.header.loader.TheConstants as loader
use Rattle.macho_fields.specs.declared.load_command.Structure.TheVariants.{LinkeditDataCommand}
use Rattle.macho_image.specs.Command.{first_with_cmd}
use Rattle.macho_image.proofs.ReadParts.{length-part}
use Rattle.macho_seals.specs.Signature.{BreaksSignatureSlack}
use Rattle.macho_tables.specs.DataInCode.{BadEntry, BreaksDataInCode}
use Rattle.macho_tables.specs.DataTables.{InDataTable, InTableBytes}
use Rattle.macho_tables.specs.Homes.{bytes_of_table}
use Rattle.macho_tables.specs.StartNumbers.{BadNumber, BreaksFunctionNumber, BreaksFunctionStart, IsStartAt, IsStrayStart, StrayStart}
use Rattle.macho_tables.proofs.DataInCode.{entry_inside}
use Rattle.macho_tables.proofs.DataTables.{data_inside, data_table_inside}
use Rattle.macho_tables.proofs.StartNumbers.{bad_number_near}
use Rattle.macho_explain.specs.Compared.{HasByte, HasFunction, IsEntryPlace}
use Rattle.macho_explain.specs.Wholes.{InTable, Opens, named_table}

-- a stray start is the start of a function
stray_has : (image table : List ℕ) (offset : ℕ) → StrayStart image table offset → HasFunction image table offset
stray_has image table offset broken =
    let (base, is, (address, starts, none)) = some_of (λ base. IsStrayStart image base table offset) (base_of image (commands_of image)) broken in
    of_some (λ base. (function : ℕ) × IsStartAt table base offset function) (base_of image (commands_of image)) base is (address, starts)

-- a bad entry, or one that is not whole, begins there
entry_has : (image table : List ℕ) (offset : ℕ) → 0 < length table → BadEntry image table offset → IsEntryPlace table offset
entry_has image table offset some (inl (zero, rest)) = (0, zero, omega (arith, zero, some))
entry_has image table offset some (inr (k, less, at, bad)) = let inside = entry_inside table k less in (k, at, omega (arith, at, inside))

named_first : (image : List ℕ) (cmd command : ℕ) → first_with_cmd image cmd (commands_of image) ≡ Some command → named_table image cmd ≡ Some (bytes_of_table (table_at image command linkedit_data_table))
named_first image cmd command is = rw is refl

module _ (image : List ℕ) (keeps : NothingBreaks (BreaksImage image None)) where
  opens : Opens image
  opens (r, place, before, broken) = keeps r place broken

  pub in_table : (cmd : ℕ) → structure_of cmd ≡ Some LinkeditDataCommand → (Rule : List ℕ → List ℕ → ℕ → Type 0) (P : List ℕ → ℕ → Type 0)
      → ((table : List ℕ) (offset : ℕ) → 0 < length table → Rule image table offset → P table offset)
      → (place : ℕ) → InDataTable image cmd Rule place → InTable image cmd (λ start. P) place
  in_table cmd is_data Rule P has place broken =
      let (command, is, (some, (offset, at, here))) = some_of (λ c. InTableBytes image (table_at image c linkedit_data_table) Rule place) (first_with_cmd image cmd (commands_of image)) broken in
      let table = bytes_of_table (table_at image command linkedit_data_table) in
      let inside = data_inside image cmd is_data command is keeps some in
      let size = length-part table.start table.len image inside in
      (opens, (table, part table.start table.len image, record { named = named_first image cmd command is; inside = inside; bytes = refl }, offset, at, has (part table.start table.len image) offset (omega (arith, size, some)) here))

  pub function_number : (place : ℕ) → BreaksFunctionNumber image place → InTable image loader.LC_FUNCTION_STARTS (λ start table offset. offset < length table) place
  function_number = in_table loader.LC_FUNCTION_STARTS refl BadNumber (λ table offset. offset < length table) (bad_number_near image)

  pub function_start : (place : ℕ) → BreaksFunctionStart image place → InTable image loader.LC_FUNCTION_STARTS (λ start. HasFunction image) place
  function_start = in_table loader.LC_FUNCTION_STARTS refl StrayStart (HasFunction image) (λ table offset some. stray_has image table offset)

  pub data_in_code : (place : ℕ) → BreaksDataInCode image place → InTable image loader.LC_DATA_IN_CODE (λ start. IsEntryPlace) place
  data_in_code = in_table loader.LC_DATA_IN_CODE refl BadEntry IsEntryPlace (entry_has image)

  pub signature_slack : (place : ℕ) → BreaksSignatureSlack image place → HasByte image place × InTable image loader.LC_CODE_SIGNATURE (λ start signature offset. Unit {0}) place
  signature_slack place (table, is, (offset, at, (nonzero, slack))) =
      let (command, first, (same, some)) = some_of (λ c. (table ≡ bytes_of_table (table_at image c linkedit_data_table)) × (0 < table.len)) (first_with_cmd image loader.LC_CODE_SIGNATURE (commands_of image)) is in
      let inside = data_table_inside image loader.LC_CODE_SIGNATURE refl keeps table is in (
        let less = nonzero.0 in omega (arith, at, less),
        (opens, (table, part table.start table.len image, record { named = rw first (ap Some (sym same)); inside = inside; bytes = refl }, offset, at, tt)),
      )
