-- From what is found in the table of the chained fixups to the places in the image.
use Rattle.std.proofs.Common.{◌≡◌, ℕ, ◌+◌, ◌^◌, ◌≤◌, ◌<◌, ◌⊎◌, List, [], ◌∷◌, length, Contains, Option, Some, None, lit<, refl, sym, ap, ◌∙◌, subst, arith, inl, inr}
use Rattle.std.specs.Prelude.{IsSomeAnd, MatchOption}
use Rattle.std.specs.Option.{option_map}
use Rattle.std.proofs.lemmas.Bool.{cases_lt}
use Rattle.std.proofs.lemmas.Bool.Decides.{leb_tells}
use Rattle.std.proofs.lemmas.Option.{none-some, same_Some}
use Rattle.macho_fields.specs.Field.{part}
use Rattle.macho_fields.specs.FirstPlace.{IsLeastPlace}
use Rattle.macho_fields.specs.Image.{command_cmd, commands_of}
use Rattle.macho_fields.specs.Layers.{NothingBreaks}
use Rattle.macho_fields.specs.LoadCommands.{structure_of, linkedit_data_table}
use Rattle.macho_fields.specs.Rules.{BreaksImage}
use Rattle.macho_fields.specs.Symbol.{table_at, tables_of}
use Rattle.macho_fields.specs.declared.header.loader.TheConstants as loader
use Rattle.macho_fields.specs.declared.load_command.Structure.TheVariants.{LinkeditDataCommand}
use Rattle.macho_fields.proofs.Options.{some_of, of_some}
use Rattle.macho_image.proofs.ReadParts.{length-part}
use Rattle.macho_spans.specs.declared.span.Span.{Span}
use Rattle.macho_chains.specs.ChainHeader.{chain_header}
use Rattle.macho_chains.specs.ChainImports.{AtImport, import_bits, HasNoNameEnd, PassesTable, IsOfNoLibrary, BreaksChainImports, BreaksChainTotal, BreaksChainLibrary}
use Rattle.macho_chains.specs.ChainStarts.{entry_offset, HasBadEntries, HasBadStarts, BreaksChainStarts}
use Rattle.macho_chains.specs.Chains.{chained_fixups, IsChainTable, IsTableOf, AreChainedFixups, NoHeader, HasHeader, BadStarts, BadImports, LongNames, UnknownLibrary, InChains, InNoBytes, BreaksChainHeader, AreLeastInChains, AreLeastInTable, AreLeastInImage, ChainsFitAt, moved_chains, unbroken_chains}
use Rattle.macho_tables.specs.DataTables.{InTableBytes}
use Rattle.macho_tables.specs.Homes.{bytes_of_table}
use Rattle.macho_tables.specs.Items.{AtItem}
use Rattle.macho_tables.specs.Limits.{library_count}
use Rattle.macho_chains.specs.declared.chain_header.ChainHeader.{ChainHeader}
use Rattle.macho_chains.specs.declared.chain_header.ImportFormat.{ImportFormat}
use Rattle.macho_chains.specs.declared.chain_header.ImportFormat.TheVariants as format
use Rattle.macho_chains.specs.declared.chains.ChainSurvey.{ChainSurvey}
use Rattle.macho_chains.specs.declared.chains.ChainTable.{ChainTable}
use Rattle.macho_chains.specs.declared.chains.ChainedFixups.{ChainedFixups}
use Rattle.macho_chains.proofs.ChainImports.{import_inside}
use Rattle.macho_tables.proofs.DataTables.{IsTableRule}
use Rattle.macho_tables.proofs.Items.{least_where, least_other}
use Rattle.macho_tables.proofs.NamedTables.{LieInside, table_named, table_inside, bounds_inside}
use Rattle.macho_tables.proofs.Places.{fits_moved, least_moved, named_first}

-- The rules are broken at offsets in a table that has bytes

some_bytes : (f : ImportFormat) → 0 < (import_bits f).size
some_bytes format.Import = omega arith
some_bytes format.ImportAddend = omega arith
some_bytes format.ImportAddend64 = omega arith

at_import_inside : (chains : List ℕ) (header : ChainHeader) (P : ℕ → Type 0) (offset : ℕ) → AtImport chains header P offset → offset < length chains
at_import_inside chains header P offset (lie, (k, less, at, has)) =
    let inside = import_inside chains header lie k less in
    let some = some_bytes header.imports_format in omega (arith, at, inside, some)

imports_near : (chains : List ℕ) (header : ChainHeader) (offset : ℕ) → 0 < length chains → BreaksChainImports chains header offset → offset < length chains
imports_near chains header offset some (inl past) = let at = past.0 in omega arith
imports_near chains header offset some (inr endless) = at_import_inside chains header (HasNoNameEnd chains header) offset endless

starts_near : (image chains : List ℕ) (header : ChainHeader) (offset : ℕ) → 0 < length chains → BreaksChainStarts image chains header offset → offset < length chains
starts_near image chains header offset some broken =
    elim (leb_tells (header.starts_offset + 4) (length chains)) [
      | inl (fits, inside) ↦ of_entries inside (rw fits at broken)
      | inr (short, past) ↦ let at : offset ≡ 0 = rw short at broken in omega arith
    ]
  where
    of_entries : {count : ℕ} → header.starts_offset + 4 ≤ length chains
        → ((offset ≡ header.starts_offset) × HasBadEntries image chains header count)
        ⊎ ((¬ HasBadEntries image chains header count) × AtItem (entry_offset header) count (HasBadStarts image chains header) offset) → offset < length chains
    of_entries inside (inl (at, bad)) = omega arith
    of_entries {count = count} inside (inr (good, (k, less, at, has))) =
        elim (cases_lt (length chains) (entry_offset header count)) [
          | inl past ↦ absurd (good (inr past))
          | inr fits ↦ omega arith
        ]

module _ (image : List ℕ) where
  -- a rule of a header
  with_header : (X : List ℕ → ChainHeader → ℕ → Type 0) → ((chains : List ℕ) (header : ChainHeader) (offset : ℕ) → 0 < length chains → X chains header offset → offset < length chains)
      → IsTableRule image (λ bytes chains offset. HasHeader chains (λ header. X chains header offset))
  with_header X inside chains offset some broken =
      let (header, is, here) = some_of (λ header. X chains header offset) (chain_header chains) broken in inside chains header offset some here

  pub no_header : IsTableRule image NoHeader
  no_header chains offset some (at, none) = omega arith

  pub bad_starts : IsTableRule image BadStarts
  bad_starts = with_header (BreaksChainStarts image) (starts_near image)

  pub bad_imports : IsTableRule image BadImports
  bad_imports = with_header BreaksChainImports imports_near

  pub long_names : IsTableRule image LongNames
  long_names = with_header BreaksChainTotal (λ chains header offset some. at_import_inside chains header (PassesTable chains header) offset)

  pub unknown_library : IsTableRule image UnknownLibrary
  unknown_library =
      with_header (BreaksChainLibrary (library_count image))
      (λ chains header offset some. at_import_inside chains header (IsOfNoLibrary (library_count image) chains header) offset)

-- What a survey of a table finds

-- where there is a header
pub survey_headed : (image chains : List ℕ) (header : ChainHeader) → chain_header chains ≡ Some header → (starts imports total library : Option ℕ)
    → IsLeastPlace (BreaksChainStarts image chains header) starts → IsLeastPlace (BreaksChainImports chains header) imports
    → IsLeastPlace (BreaksChainTotal chains header) total → IsLeastPlace (BreaksChainLibrary (library_count image) chains header) library
    → AreLeastInTable image chains (record { header = None; starts = starts; imports = imports; total = total; library = library })
survey_headed image chains header is starts imports total library least_starts least_imports least_total least_library = record {
  header = λ offset (at, none). absurd (none-some header (sym none ∙ is));
  starts = with_it (λ h. BreaksChainStarts image chains h) starts least_starts;
  imports = with_it (λ h. BreaksChainImports chains h) imports least_imports;
  total = with_it (λ h. BreaksChainTotal chains h) total least_total;
  library = with_it (λ h. BreaksChainLibrary (library_count image) chains h) library least_library;
}
  where
    with_it : (X : ChainHeader → ℕ → Type 0) (found : Option ℕ) → IsLeastPlace (X header) found → IsLeastPlace (λ offset. HasHeader chains (λ h. X h offset)) found
    with_it X found least = subst (λ (o : Option ChainHeader). IsLeastPlace (λ offset. IsSomeAnd o (λ h. X h offset)) found) (sym is) least

-- its places fit where the table's do
pub survey_fits : (image chains : List ℕ) (survey : ChainSurvey) (start : ℕ) → 0 < length chains → AreLeastInTable image chains survey → start + length chains < 2 ^ 64 → ChainsFitAt start survey
survey_fits image chains survey start some are fits = record {
  header = fits_moved _ start (length chains) _ (λ offset. no_header image chains offset some) fits are.header;
  starts = fits_moved _ start (length chains) _ (λ offset. bad_starts image chains offset some) fits are.starts;
  imports = fits_moved _ start (length chains) _ (λ offset. bad_imports image chains offset some) fits are.imports;
  total = fits_moved _ start (length chains) _ (λ offset. long_names image chains offset some) fits are.total;
  library = fits_moved _ start (length chains) _ (λ offset. unknown_library image chains offset some) fits are.library;
}

-- in the image they are the least too
pub survey_moved : (image : List ℕ) (table : ℕ × ℕ × ℕ) (survey : ChainSurvey) → 0 < table.1 → AreLeastInTable image (part table.0 table.1 image) survey
    → AreLeastInChains (InTableBytes image table NoHeader) (InTableBytes image table) (moved_chains table.0 survey)
survey_moved image table survey some are = record {
  header = at NoHeader survey.header are.header;
  starts = at BadStarts survey.starts are.starts;
  imports = at BadImports survey.imports are.imports;
  total = at LongNames survey.total are.total;
  library = at UnknownLibrary survey.library are.library;
}
  where
    at : (Rule : List ℕ → List ℕ → ℕ → Type 0) (found : Option ℕ) → IsLeastPlace (Rule image (part table.0 table.1 image)) found
        → IsLeastPlace (InTableBytes image table Rule) (option_map (λ offset. table.0 + offset) found)
    at Rule found least = least_where (0 < table.1) _ _ some (least_moved (Rule image (part table.0 table.1 image)) table.0 found least)

-- The table of an image

-- what was read of it
pub table_read : (image : List ℕ) (fixups : ChainedFixups) (table : ChainTable) → AreChainedFixups image fixups → fixups.table ≡ Some table → IsTableOf image table
table_read image fixups table are is = subst (λ (found : Option ChainTable). MatchOption found ((span : Span) → ¬ IsChainTable image span) (IsTableOf image)) is are.table

pub none_read : (image : List ℕ) (fixups : ChainedFixups) → AreChainedFixups image fixups → fixups.table ≡ None → (span : Span) → ¬ IsChainTable image span
none_read image fixups are is = subst (λ (found : Option ChainTable). MatchOption found ((span : Span) → ¬ IsChainTable image span) (IsTableOf image)) is are.table

-- the bytes of the table that a command names
pub chain_table_of : (image : List ℕ) (command : ℕ) → chained_fixups image ≡ Some command → 0 < (table_at image command linkedit_data_table).1
    → IsChainTable image (bytes_of_table (table_at image command linkedit_data_table))
chain_table_of image command is some =
    let table = bytes_of_table (table_at image command linkedit_data_table) in
    subst (λ (found : Option ℕ). IsSomeAnd found (λ c. (table ≡ bytes_of_table (table_at image c linkedit_data_table)) × (0 < table.len))) (sym is) (refl, some)

-- no command names one that has some
pub chains_unlisted : (image : List ℕ) → ((table : Span) → ¬ IsChainTable image table) → AreLeastInImage image (record unbroken_chains { header = chained_fixups image })
chains_unlisted image none = record {
  header = headless (chained_fixups image) refl;
  starts = nothing BadStarts;
  imports = nothing BadImports;
  total = nothing LongNames;
  library = nothing UnknownLibrary;
}
  where
    nothing : (Rule : List ℕ → List ℕ → ℕ → Type 0) (place : ℕ) → ¬ InChains image Rule place
    nothing Rule place broken =
        let (command, is, (some, here)) = some_of (λ c. InTableBytes image (table_at image c linkedit_data_table) Rule place) (chained_fixups image) broken in
        none (bytes_of_table (table_at image command linkedit_data_table)) (chain_table_of image command is some)

    -- the place is the command's
    named : (place : ℕ) → BreaksChainHeader image place → chained_fixups image ≡ Some place
    named place (inl empty) =
        let (command, is, (same, no_bytes)) = some_of (λ c. (place ≡ c) × ((table_at image c linkedit_data_table).1 ≡ 0)) (chained_fixups image) empty in
        is ∙ ap Some (sym same)
    named place (inr here) = absurd (nothing NoHeader place here)

    headless : (found : Option ℕ) → chained_fixups image ≡ found → IsLeastPlace (BreaksChainHeader image) found
    headless None is = λ place broken. none-some place (sym is ∙ named place broken)
    headless (Some command) is = (
      inl (of_some (λ c. (command ≡ c) × ((table_at image c linkedit_data_table).1 ≡ 0)) (chained_fixups image) command is (refl, no_bytes)),
      λ place broken. let same : command ≡ place = same_Some _ _ (sym is ∙ named place broken) in omega arith,
    )
      where
        no_bytes : (table_at image command linkedit_data_table).1 ≡ 0
        no_bytes = elim (cases_lt 0 (table_at image command linkedit_data_table).1) [
          | inl some ↦ absurd (none _ (chain_table_of image command is some))
          | inr few ↦ omega (arith, few)
        ]

module _ (image : List ℕ) (table : Span) (is : IsChainTable image table) where
  pub chain_table_some : 0 < table.len
  chain_table_some =
      let (command, at, (same, some)) = some_of (λ c. (table ≡ bytes_of_table (table_at image c linkedit_data_table)) × (0 < table.len)) (chained_fixups image) is in some

  -- it has bytes
  some_bytes_named : (place : ℕ) → ¬ InNoBytes image place
  some_bytes_named place empty =
      let (command, at, (same, some)) = some_of (λ c. (table ≡ bytes_of_table (table_at image c linkedit_data_table)) × (0 < table.len)) (chained_fixups image) is in
      let (other, there, (here, no_bytes)) = some_of (λ c. (place ≡ c) × ((table_at image c linkedit_data_table).1 ≡ 0)) (chained_fixups image) empty in
      let one : command ≡ other = same_Some _ _ (sym at ∙ there) in
      let size : table.len ≡ (table_at image other linkedit_data_table).1 = ap (λ (s : Span). s.len) same ∙ ap (λ c. (table_at image c linkedit_data_table).1) one in
      omega (arith, some, size, no_bytes)

  -- what is found in it is found in the image
  in_chains : (survey : ChainSurvey) → AreLeastInTable image (part table.start table.len image) survey → AreLeastInChains (InChains image NoHeader) (InChains image) (moved_chains table.start survey)
  in_chains survey are =
      let (command, at, (same, some)) = some_of (λ c. (table ≡ bytes_of_table (table_at image c linkedit_data_table)) × (0 < table.len)) (chained_fixups image) is in
      let bounds = table_at image command linkedit_data_table in
      let here = survey_moved image (table.start, table.len, 1) survey some are in
      let there = subst (λ (t : Span). AreLeastInChains (InTableBytes image (t.start, t.len, 1) NoHeader) (InTableBytes image (t.start, t.len, 1)) (moved_chains table.start survey)) same here in
      subst
      (λ (found : Option ℕ). AreLeastInChains (λ place. IsSomeAnd found (λ c. InTableBytes image (table_at image c linkedit_data_table) NoHeader place))
      (λ Rule place. IsSomeAnd found (λ c. InTableBytes image (table_at image c linkedit_data_table) Rule place)) (moved_chains table.start survey)) (sym at) there

  pub chains_listed : (survey : ChainSurvey) → AreLeastInTable image (part table.start table.len image) survey → AreLeastInImage image (moved_chains table.start survey)
  chains_listed survey are =
      let found = in_chains survey are in
      record {
        header = least_other (InNoBytes image) (InChains image NoHeader) _ some_bytes_named found.header;
        starts = found.starts;
        imports = found.imports;
        total = found.total;
        library = found.library;
      }

-- the table of a command
module _ (image : List ℕ) (command : ℕ) (is : chained_fixups image ≡ Some command) where
  abbrev table : ℕ × ℕ × ℕ
  table = table_at image command linkedit_data_table

  module _ (keeps : NothingBreaks (BreaksImage image None)) where
    is_linkedit : Contains (commands_of image) command × (structure_of (command_cmd image command) ≡ Some LinkeditDataCommand)
    is_linkedit = named_first image (λ n. structure_of n ≡ Some LinkeditDataCommand) loader.LC_DYLD_CHAINED_FIXUPS refl command is

    its_table : Contains (linkedit_data_table ∷ []) linkedit_data_table
    its_table = (0, lit< tt, refl)

    -- it is a table of the command
    pub chain_table_listed : Contains (tables_of image command) table
    chain_table_listed = table_named image keeps command LinkeditDataCommand is_linkedit linkedit_data_table its_table

    -- the fields that bound it lie in the image
    pub chain_fields_inside : LieInside image command linkedit_data_table
    chain_fields_inside = bounds_inside image keeps command LinkeditDataCommand is_linkedit linkedit_data_table its_table

    -- and so does the table, if it has bytes
    pub chains_inside : 0 < table.1 → table.0 + table.1 ≤ length image
    chains_inside = table_inside image keeps command LinkeditDataCommand is_linkedit linkedit_data_table its_table refl

-- a place at which a rule is broken lies in the image
pub chains_near : (image : List ℕ) → NothingBreaks (BreaksImage image None) → (Rule : List ℕ → List ℕ → ℕ → Type 0) → IsTableRule image Rule → (place : ℕ) → InChains image Rule place → place ≤ length image
chains_near image keeps Rule inside place broken =
    let (command, is, (some, (offset, at, here))) = some_of (λ c. InTableBytes image (table_at image c linkedit_data_table) Rule place) (chained_fixups image) broken in
    let table = table_at image command linkedit_data_table in
    let fits = chains_inside image command is keeps some in
    let size = length-part table.0 table.1 image fits in
    let within = inside (part table.0 table.1 image) offset (omega (arith, size, some)) here in
    omega (arith, at, within, size, fits)
