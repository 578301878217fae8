-- From what is found in the table of a linkedit_data_command to the places in the image.
use Rattle.std.proofs.Common.{◌≡◌, ℕ, ◌+◌, ◌^◌, ◌≤◌, ◌<◌, List, [], ◌∷◌, length, Contains, Option, Some, None, lit<, refl, sym, ap, subst, arith}
use Rattle.std.specs.Prelude.{IfSome, IsSomeAnd}
use Rattle.std.specs.Option.{option_map}
use Rattle.macho_fields.specs.Field.{part}
use Rattle.macho_fields.specs.FirstPlace.{IsLeastPlace}
use Rattle.macho_fields.specs.Image.{command_cmd, commands_of}
use Rattle.macho_fields.specs.Layers.{NothingBreaks}
use Rattle.macho_fields.specs.LoadCommands.{structure_of, linkedit_data_table}
use Rattle.macho_fields.specs.Rules.{BreaksImage}
use Rattle.macho_fields.specs.Symbol.{table_at}
use Rattle.macho_fields.specs.declared.load_command.Structure.TheVariants.{LinkeditDataCommand}
use Rattle.macho_fields.proofs.Options.{some_of, of_some}
use Rattle.macho_image.specs.Command.{first_with_cmd}
use Rattle.macho_image.proofs.ReadParts.{length-part}
use Rattle.macho_spans.specs.declared.span.Span.{Span}
use Rattle.macho_tables.specs.DataTables.{InTableBytes, IsDataTable, InDataTable}
use Rattle.macho_tables.specs.Homes.{bytes_of_table}
use Rattle.macho_tables.proofs.Items.{least_where}
use Rattle.macho_tables.proofs.NamedTables.{LieInside, table_inside, bounds_inside}
use Rattle.macho_tables.proofs.Places.{fits_moved, least_moved, named_first}

-- a rule is broken at offsets in a table that has bytes
abbrev pub IsTableRule : List ℕ → (List ℕ → List ℕ → ℕ → Type 0) → Type 0
IsTableRule image Rule = (table : List ℕ) (offset : ℕ) → 0 < length table → Rule image table offset → offset < length table

module _ (image : List ℕ) (cmd : ℕ) where
  -- the bytes of the table that a command names
  pub data_table_of : (command : ℕ) → first_with_cmd image cmd (commands_of image) ≡ Some command → 0 < (table_at image command linkedit_data_table).1
      → IsDataTable image cmd (bytes_of_table (table_at image command linkedit_data_table))
  data_table_of command is some =
      let table = bytes_of_table (table_at image command linkedit_data_table) in
      of_some (λ c. (table ≡ bytes_of_table (table_at image c linkedit_data_table)) × (0 < table.len)) (first_with_cmd image cmd (commands_of image)) command is (refl, some)

  -- no table has bytes
  pub none_in_image : (Rule : List ℕ → List ℕ → ℕ → Type 0) → ((table : Span) → ¬ IsDataTable image cmd table) → IsLeastPlace (InDataTable image cmd Rule) None
  none_in_image Rule none = λ place broken.
      let (command, is, (some, here)) = some_of (λ c. InTableBytes image (table_at image c linkedit_data_table) Rule place) (first_with_cmd image cmd (commands_of image)) broken in
      none (bytes_of_table (table_at image command linkedit_data_table)) (data_table_of command is some)

  module _ (table : Span) (is : IsDataTable image cmd table) where
    named : (command : ℕ) × (first_with_cmd image cmd (commands_of image) ≡ Some command)
        × ((table ≡ bytes_of_table (table_at image command linkedit_data_table)) × (0 < table.len))
    named = some_of (λ c. (table ≡ bytes_of_table (table_at image c linkedit_data_table)) × (0 < table.len)) (first_with_cmd image cmd (commands_of image)) is

    -- what is found in it is found in the image
    pub least_in_image : (Rule : List ℕ → List ℕ → ℕ → Type 0) (found : Option ℕ) → IsLeastPlace (Rule image (part table.start table.len image)) found
        → IsLeastPlace (InDataTable image cmd Rule) (option_map (λ offset. table.start + offset) found)
    least_in_image Rule found least =
        let (command, at, (same, some)) = named in
        let here = least_where (0 < table.len) _ _ some (least_moved (Rule image (part table.start table.len image)) table.start found least) in
        let there = subst (λ (t : Span). IsLeastPlace (InTableBytes image (t.start, t.len, 1) Rule) (option_map (λ offset. table.start + offset) found)) same here in
        subst (λ (o : Option ℕ). IsLeastPlace (λ place. IsSomeAnd o (λ c. InTableBytes image (table_at image c linkedit_data_table) Rule place)) (option_map (λ offset. table.start + offset) found)) (sym at) there

    -- a rule that is broken in it is broken in the image
    pub broken_in_image : (Rule : List ℕ → List ℕ → ℕ → Type 0) (offset : ℕ) → Rule image (part table.start table.len image) offset → InDataTable image cmd Rule (table.start + offset)
    broken_in_image Rule offset here =
        let (command, at, (same, some)) = named in
        let there = subst (λ (t : Span). InTableBytes image (t.start, t.len, 1) Rule (table.start + offset)) same (some, (offset, refl, here)) in
        of_some (λ c. InTableBytes image (table_at image c linkedit_data_table) Rule (table.start + offset)) (first_with_cmd image cmd (commands_of image)) command at there

    -- its places fit
    pub fits_in_image : (Rule : List ℕ → List ℕ → ℕ → Type 0) → IsTableRule image Rule → (found : Option ℕ) → table.start + table.len ≤ length image → length image < 2 ^ 64
        → IsLeastPlace (Rule image (part table.start table.len image)) found → IfSome found (λ offset. table.start + offset < 2 ^ 64)
    fits_in_image Rule near found inside fits least =
        let (command, at, (same, some)) = named in
        let size = length-part table.start table.len image inside in
        fits_moved _ table.start table.len found
        (λ offset broken. let within = near (part table.start table.len image) offset (omega (arith, size, some)) broken in omega (arith, within, size)) (omega (arith, inside, fits)) least

  module _ (is_data : structure_of cmd ≡ Some LinkeditDataCommand) (command : ℕ) (is : first_with_cmd image cmd (commands_of image) ≡ Some command) (keeps : NothingBreaks (BreaksImage image None)) where
    is_linkedit : Contains (commands_of image) command × (structure_of (command_cmd image command) ≡ Some LinkeditDataCommand)
    is_linkedit = named_first image (λ n. structure_of n ≡ Some LinkeditDataCommand) cmd is_data command is

    its_table : Contains (linkedit_data_table ∷ []) linkedit_data_table
    its_table = (0, lit< tt, refl)

    -- the fields that bound it lie in the image
    pub data_fields_inside : LieInside image command linkedit_data_table
    data_fields_inside = bounds_inside image keeps command LinkeditDataCommand is_linkedit linkedit_data_table its_table

    -- and so does the table, if it has bytes
    pub data_inside : 0 < (table_at image command linkedit_data_table).1 → (table_at image command linkedit_data_table).0 + (table_at image command linkedit_data_table).1 ≤ length image
    data_inside = table_inside image keeps command LinkeditDataCommand is_linkedit linkedit_data_table its_table refl

-- a place at which a rule is broken lies in the image
pub data_near : (image : List ℕ) (cmd : ℕ) → structure_of cmd ≡ Some LinkeditDataCommand → NothingBreaks (BreaksImage image None)
    → (Rule : List ℕ → List ℕ → ℕ → Type 0) → IsTableRule image Rule → (place : ℕ) → InDataTable image cmd Rule place → place ≤ length image
data_near image cmd is_data keeps Rule inside place broken =
    let (command, is, (some, (offset, at, here))) = some_of (λ c. InTableBytes image (table_at image c linkedit_data_table) Rule place) (first_with_cmd image cmd (commands_of image)) broken in
    let table = table_at image command linkedit_data_table in
    let fits = data_inside image cmd is_data command is keeps some in
    let size = length-part table.0 table.1 image fits in
    let within = inside (part table.0 table.1 image) offset (omega (arith, size, some)) here in
    omega (arith, at, within, size, fits)

-- a table that has bytes lies in the image
pub data_table_inside : (image : List ℕ) (cmd : ℕ) → structure_of cmd ≡ Some LinkeditDataCommand → NothingBreaks (BreaksImage image None)
    → (table : Span) → IsDataTable image cmd table → table.start + table.len ≤ length image
data_table_inside image cmd is_data keeps table is =
    let (command, at, (same, some)) = some_of (λ c. (table ≡ bytes_of_table (table_at image c linkedit_data_table)) × (0 < table.len)) (first_with_cmd image cmd (commands_of image)) is in
    let len : table.len ≡ (table_at image command linkedit_data_table).1 = ap (λ (s : Span). s.len) same in
    let inside = data_inside image cmd is_data command at keeps (omega (arith, some, len)) in
    subst (λ (s : Span). s.start + s.len ≤ length image) (sym same) inside
