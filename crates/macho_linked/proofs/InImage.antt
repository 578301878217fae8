-- The place of a break of a linked rule lies in the image.
use Rattle.std.proofs.Common.{◌≡◌, ℕ, ◌+◌, ◌≤◌, ◌<◌, List, length, drop, Contains, None, refl, arith, inl, inr, length-drop}
use Rattle.std.proofs.lemmas.List.{length-take}
use Rattle.macho_fields.specs.Field.{part}
use Rattle.macho_fields.specs.Image.{commands_of}
use Rattle.macho_fields.specs.Layers.{NothingBreaks}
use Rattle.macho_fields.specs.Rules.{BreaksImage as Breaks}
use Rattle.macho_fields.specs.LoadCommands.{linkedit_data_table}
use Rattle.macho_fields.specs.Symbol.{table_at}
use Rattle.macho_fields.specs.declared.header.loader.TheConstants as loader
use Rattle.macho_fields.specs.declared.rule.Rule.{Rule}
use Rattle.macho_fields.specs.declared.rule.Rule.TheVariants as rule
use Rattle.macho_fields.proofs.Opened.{command_inside}
use Rattle.macho_fields.proofs.Options.{some_of}
use Rattle.macho_fields.proofs.Parts.{with_cmd_among}
use Rattle.macho_image.proofs.ReadParts.{length-part}
use Rattle.macho_rules.proofs.Judged.{opened_facts, opened_commands}
use Rattle.macho_rules.proofs.Verdicts.{unbroken_opened}
use Rattle.macho_chains.specs.Chains.{chained_fixups, NoHeader, BadStarts, BadImports, LongNames, UnknownLibrary, InNoBytes}
use Rattle.macho_opcodes.specs.Images.{opcodes_of, fields_of, Undecoded, NoLibrary, NoName, NoSlot, TooMany, TooLong, InStream, InRebases, InBindsOf, InBinds}
use Rattle.macho_tables.specs.Places.{dyld_info}
use Rattle.macho_tables.specs.DataInCode.{BadEntry}
use Rattle.macho_linked.specs.Rules.{BreaksImage}
use Rattle.macho_tables.specs.StartNumbers.{BadNumber, StrayStart}
use Rattle.macho_opcodes.specs.declared.step.Opcodes.{Opcodes}
use Rattle.macho_opcodes.specs.declared.streams.Stream.{Stream}
use Rattle.macho_opcodes.specs.declared.streams.Stream.TheVariants as streams
use Rattle.macho_chains.proofs.ChainTables.{no_header, bad_starts, bad_imports, long_names, unknown_library, chains_near}
use Rattle.macho_tables.proofs.DataInCode.{bad_entry_near}
use Rattle.macho_tables.proofs.DataTables.{data_near, data_table_inside}
use Rattle.macho_tables.proofs.InitOffsets.{init_offset_near}
use Rattle.macho_exports.proofs.ExportTables.{node_inside, total_inside, terminal_inside, library_inside, address_inside}
use Rattle.macho_chains.proofs.PointerSurveys.{slots_near, binds_near}
use Rattle.macho_tables.proofs.StartNumbers.{bad_number_near, stray_start_near}
use Rattle.macho_opcodes.proofs.TableSurveys.{IsStreamRule, undecoded, no_library, no_name, no_slot, too_many, too_long}
use Rattle.macho_tables.proofs.Places.{named_first}
use Rattle.macho_image.specs.Symbol.{symbol_at}
use Rattle.macho_signature.specs.Signature.{BadDirectory, PartialDirectory, InSignature}
use Rattle.macho_signature.specs.Superblobs.{BadBlob}
use Rattle.macho_signature.proofs.Images.{blob_near, directory_near, whole_near}
use Rattle.macho_symbols.specs.Symbols.{LacksLibrary, IsAstraySymbol, IsEndless}
use Rattle.macho_symbols.specs.Indirects.{IsBadIndirects}
use Rattle.macho_symbols.proofs.Near.{symbol_near, section_place_near, relocation_near}

part_short : (start size : ℕ) (bytes : List ℕ) (offset : ℕ) → offset < length (part start size bytes) → start + offset ≤ length bytes
part_short start size bytes offset less =
    let count = length-take size (drop start bytes) in
    let rest = length-drop start bytes in
    omega (arith, count, rest, less)

-- a rule that is broken in a stream
module _ (image : List ℕ) (Rule : List ℕ → Opcodes → List ℕ → ℕ → Type 0) (inside : IsStreamRule image Rule) where
  stream_inside : (one : Stream) (command place : ℕ) → InStream one image command Rule place → place ≤ length image
  stream_inside one command place (offset, is, has) =
      let table = table_at image command (fields_of one) in
      let within = part_short table.0 table.1 image offset (inside (opcodes_of one) (part table.0 table.1 image) offset has) in omega (arith, is, within)

  rebases_inside : (place : ℕ) → InRebases image Rule place → place ≤ length image
  rebases_inside place broken =
      let (command, is, here) = some_of (λ c. InStream streams.Rebase image c Rule place) (dyld_info image) broken in
      stream_inside streams.Rebase command place here

  binds_inside : (place : ℕ) → InBinds image Rule place → place ≤ length image
  binds_inside place broken =
      let (command, is, here) = some_of (λ c. InBindsOf image c Rule place) (dyld_info image) broken in
      elim here [
        | inl two ↦ elim two [ inl bind ↦ stream_inside streams.Bind command place bind | inr weak ↦ stream_inside streams.WeakBind command place weak ]
        | inr lazy ↦ stream_inside streams.LazyBind command place lazy
      ]

module _ (image : List ℕ) (none : NothingBreaks (Breaks image None)) where
  pub listed_inside : (command : ℕ) → Contains (commands_of image) command → command ≤ length image
  listed_inside command has =
      let opened = unbroken_opened image none in
      let inside = command_inside image (commands_of image) (opened_facts image opened) (opened_commands image opened) command has in omega (arith, inside)

  -- the place of the command that names the chained fixups
  fixups_inside : (place : ℕ) → InNoBytes image place → place ≤ length image
  fixups_inside place empty =
      let (command, is, (same, no_bytes)) = some_of (λ c. (place ≡ c) × ((table_at image c linkedit_data_table).1 ≡ 0)) (chained_fixups image) empty in
      let (listed, number) = named_first image (λ n. n ≡ loader.LC_DYLD_CHAINED_FIXUPS) loader.LC_DYLD_CHAINED_FIXUPS refl command is in
      let inside = listed_inside command listed in omega (arith, same, inside)

  -- a rule of the bytes of the signature
  pub signature_inside : (Rule : ℕ → List ℕ → ℕ → Type 0) → ((start : ℕ) (bytes : List ℕ) (offset : ℕ) → Rule start bytes offset → offset ≤ length bytes)
      → (place : ℕ) → InSignature image Rule place → place ≤ length image
  signature_inside Rule near place (table, is, (offset, at, broken)) =
      let inside = data_table_inside image loader.LC_CODE_SIGNATURE refl none table is in
      let size = length-part table.start table.len image inside in
      let within = near table.start (part table.start table.len image) offset broken in
      omega (arith, at, within, size, inside)

  pub place_inside : (r : Rule) (place : ℕ) → BreaksImage image r place → place ≤ length image
  place_inside rule.TableRepeated place broken = listed_inside place broken.0
  place_inside rule.FunctionVariants place broken = listed_inside place broken.0
  place_inside rule.TableHome place broken = listed_inside place broken.0
  place_inside rule.HeaderHome place broken = let at = broken.0 in omega (arith, at)
  place_inside rule.RebaseOpcode place broken = rebases_inside image Undecoded (undecoded image) place broken
  place_inside rule.RebaseSlot place broken = rebases_inside image NoSlot (no_slot image) place broken
  place_inside rule.RebaseTotal place broken = rebases_inside image TooMany (too_many image) place broken
  place_inside rule.BindOpcode place broken = binds_inside image Undecoded (undecoded image) place broken
  place_inside rule.BindLibrary place broken = binds_inside image NoLibrary (no_library image) place broken
  place_inside rule.BindSymbol place broken = binds_inside image NoName (no_name image) place broken
  place_inside rule.BindSlot place broken = binds_inside image NoSlot (no_slot image) place broken
  place_inside rule.BindTotal place broken = binds_inside image TooMany (too_many image) place broken
  place_inside rule.BindNames place broken = binds_inside image TooLong (too_long image) place broken
  place_inside rule.ChainHeader place broken = elim broken [ inl empty ↦ fixups_inside place empty | inr here ↦ chains_near image none NoHeader (no_header image) place here ]
  place_inside rule.ChainStarts place broken = chains_near image none BadStarts (bad_starts image) place broken
  place_inside rule.ChainImports place broken = chains_near image none BadImports (bad_imports image) place broken
  place_inside rule.ChainTotal place broken = chains_near image none LongNames (long_names image) place broken
  place_inside rule.ChainLibrary place broken = chains_near image none UnknownLibrary (unknown_library image) place broken
  place_inside rule.ChainSlot place broken = slots_near image none place broken
  place_inside rule.ChainBind place broken = binds_near image none place broken
  place_inside rule.ExportNode place broken = node_inside image none place broken
  place_inside rule.ExportTotal place broken = total_inside image none place broken
  place_inside rule.ExportTerminal place broken = terminal_inside image none place broken
  place_inside rule.ExportLibrary place broken = library_inside image none place broken
  place_inside rule.ExportAddress place broken = address_inside image none place broken
  place_inside rule.FunctionNumber place broken = data_near image loader.LC_FUNCTION_STARTS refl none BadNumber (bad_number_near image) place broken
  place_inside rule.FunctionStart place broken = data_near image loader.LC_FUNCTION_STARTS refl none StrayStart (stray_start_near image) place broken
  place_inside rule.DataInCode place broken = data_near image loader.LC_DATA_IN_CODE refl none BadEntry (bad_entry_near image) place broken
  place_inside rule.InitOffset place broken = init_offset_near image none place broken
  place_inside rule.SignatureBlob place broken = signature_inside (λ start. BadBlob) (λ start. blob_near) place broken
  place_inside rule.SignatureDirectory place broken = signature_inside BadDirectory directory_near place broken
  place_inside rule.SignatureWhole place broken = signature_inside PartialDirectory whole_near place broken
  place_inside rule.SymbolLibrary place broken = symbol_near image none (λ symtab symbol. LacksLibrary image (symbol_at image symbol)) place broken
  place_inside rule.SymbolValue place broken = symbol_near image none (λ symtab symbol. IsAstraySymbol image (symbol_at image symbol)) place broken
  place_inside rule.SymbolIndirect place broken = symbol_near image none (λ symtab symbol. IsEndless image symtab (symbol_at image symbol)) place broken
  place_inside rule.IndirectRange place broken = section_place_near image none (IsBadIndirects image) place broken
  place_inside rule.ObsoleteTable place broken = listed_inside place (with_cmd_among image (commands_of image) loader.LC_DYSYMTAB place broken.0)
  place_inside rule.Relocation place broken = relocation_near image none place broken
  place_inside rule.Thread place broken = listed_inside place broken.0
  place_inside rule.CommandContent place broken = listed_inside place broken.0
  place_inside other place broken = absurd broken
