-- The place of a break of an unambiguous rule lies in the image.
use Rattle.std.proofs.Common.{◌≡◌, ℕ, ◌≤◌, ◌⊎◌, List, length, Contains, None, refl, arith, inl, inr}
use Rattle.macho_fields.specs.Image.{commands_of}
use Rattle.macho_fields.specs.Layers.{NothingBreaks}
use Rattle.macho_fields.specs.Rules.{BreaksImage as Breaks}
use Rattle.macho_fields.specs.Segment.{all_segments}
use Rattle.macho_fields.specs.declared.header.loader.TheConstants as loader
use Rattle.macho_fields.specs.declared.rule.Rule.{Rule}
use Rattle.macho_fields.specs.declared.rule.Rule.TheVariants as rule
use Rattle.macho_fields.proofs.Opened.{command_inside}
use Rattle.macho_fields.proofs.Parts.{with_cmd_among}
use Rattle.macho_image.specs.Opened.{IsOpened}
use Rattle.macho_image.specs.Segment.{sections_of}
use Rattle.macho_rules.proofs.Judged.{opened_facts, opened_commands}
use Rattle.macho_rules.proofs.Searches.{one_of}
use Rattle.macho_rules.proofs.Verdicts.{unbroken_opened}
use Rattle.macho_alike.specs.Binds.{BreaksBindOnce, BindsOf}
use Rattle.macho_alike.specs.Definitions.{DisagreesEarlier}
use Rattle.macho_alike.specs.Exports.{UnclearNode}
use Rattle.macho_alike.specs.Imports.{IsFromOther}
use Rattle.macho_alike.specs.Indirects.{BreaksIndirectName, IsOfAnotherName, entry_with}
use Rattle.macho_alike.specs.SymbolTotal.{PassesImage}
use Rattle.macho_alike.specs.TrieSymbols.{IsUnlikeTrie}
use Rattle.macho_alike.specs.Symbols.{IsSeenTwice}
use Rattle.macho_alike.proofs.BindAnswers.{chain_slots_apart}
use Rattle.macho_alike.proofs.BindStreams.{bind_inside}
use Rattle.macho_alike.proofs.NearEntries.{entry_near as indirect_entry_near}
use Rattle.macho_exports.proofs.ExportTables.{node_rule_near, rule_inside}
use Rattle.macho_exports.specs.ExportWalk.{met_nodes}
use Rattle.macho_fields.specs.Field.{part}
use Rattle.macho_fields.proofs.Options.{some_of}
use Rattle.macho_identity.specs.DirectoryAgree.{IsDisagreeing}
use Rattle.macho_identity.specs.SignatureSlot.{IsBadSlot}
use Rattle.macho_identity.proofs.Images.{blobs_in_image, entry_near}
use Rattle.macho_image.proofs.ReadParts.{length-part}
use Rattle.macho_image.specs.Symbol.{symbol_at}
use Rattle.macho_image.specs.declared.indirect.Indirect.{Indirect}
use Rattle.macho_linked.specs.Rules.{BreaksImage as LinkedImage}
use Rattle.macho_opcodes.specs.declared.streams.Stream.TheVariants as streams
use Rattle.macho_signature.specs.Signature.{InSignature}
use Rattle.macho_signature.specs.Superblobs.{blob_count, entry_offset}
use Rattle.macho_tables.specs.Items.{AtItem}
use Rattle.macho_tables.specs.Places.{dyld_info}
use Rattle.macho_tables.proofs.DataTables.{data_table_inside}
use Rattle.macho_symbols.proofs.Near.{symbol_near}
use Rattle.macho_unambiguous.specs.Rules.{BreaksImage}
use Rattle.macho_readers.specs.Sections.{AtSection}
use Rattle.macho_readers.proofs.NamedSections.{pair_inside}

module _ (image : List ℕ) (none : NothingBreaks (Breaks image None)) (linked : NothingBreaks (LinkedImage image)) where
  opened : IsOpened image
  opened = unbroken_opened image none

  command_near : (place : ℕ) → Contains (commands_of image) place → place ≤ length image
  command_near place has = let inside = command_inside image (commands_of image) (opened_facts image opened) (opened_commands image opened) place has in omega (arith, inside)

  segment_near : (place : ℕ) → Contains (all_segments image) place → place ≤ length image
  segment_near place has = command_near place (with_cmd_among image (commands_of image) loader.LC_SEGMENT_64 place has)

  section_near : (P : ℕ × ℕ → Type 0) (place : ℕ) → AtSection image P place → place ≤ length image
  section_near P place any =
      let (section, has, (at, here)) = one_of (λ (s : ℕ × ℕ). (place ≡ s.1) × P s) (sections_of image (commands_of image)) any in
      let inside = (pair_inside image opened section has).1 in omega (arith, at, inside)

  bind_near : (place : ℕ) → BreaksBindOnce image place → place ≤ length image
  bind_near place (inl (what, one, other, here, there, clash, less, at)) =
      let (command, info, binds) = some_of (λ c. (BindsOf streams.Bind image c other ⊎ BindsOf streams.WeakBind image c other) ⊎ BindsOf streams.LazyBind image c other) (dyld_info image) there in
      let inside = (bind_inside image none command info other there).place in omega (arith, inside, at)
  bind_near place (inr (k, one, other, here, there, less, near, at)) = elim (chain_slots_apart image k one other here there) [
    | inl same ↦ absurd (omega (arith, same, less))
    | inr apart ↦ elim apart [ inl before ↦ absurd (omega (arith, before, near)) | inr after ↦ absurd (omega (arith, after, less)) ]
  ]

  indirect_near : (place : ℕ) → BreaksIndirectName image place → place ≤ length image
  indirect_near place (bound, index, is, has, some) =
      let (entry, at, (here, other)) = some_of (λ (e : Indirect). (place ≡ e.place) × IsOfAnotherName image e bound.name) (entry_with image index) some in
      let near = indirect_entry_near image index entry at in omega (arith, here, near)

  entry_of_signature_near : (P : List ℕ → ℕ → Type 0) (place : ℕ)
      → InSignature image (λ start signature. AtItem entry_offset (blob_count signature) (P signature)) place → place ≤ length image
  entry_of_signature_near P place (table, is, (offset, at, broken)) =
      let signature = part table.start table.len image in
      let inside = data_table_inside image loader.LC_CODE_SIGNATURE refl none table is in
      let size = length-part table.start table.len image inside in
      let within = entry_near signature (blobs_in_image image (linked rule.SignatureBlob) table is) (P signature) offset broken in
      omega (arith, at, within, size, inside)

  pub place_inside : (r : Rule) (place : ℕ) → BreaksImage image r place → place ≤ length image
  place_inside rule.CommandKnown place broken = command_near place broken.0
  place_inside rule.CommandOnce place broken = command_near place broken.0
  place_inside rule.SegmentName place broken = segment_near place broken.0
  place_inside rule.SegmentPage place broken = segment_near place broken.0
  place_inside rule.SegmentProtection place broken = segment_near place broken.0
  place_inside rule.BytesEncrypted place broken = command_near place broken.0
  place_inside rule.NumberShift place broken = elim broken [ inl shifts ↦ command_near place shifts.0 | inr shifted ↦ segment_near place shifted.0 ]
  place_inside rule.SectionName place broken = section_near _ place broken
  place_inside rule.SectionAlone place broken = section_near _ place broken
  place_inside rule.EntryOne place broken = command_near place broken.0
  place_inside rule.BindOnce place broken = bind_near place broken
  place_inside rule.ExportEdge place broken = rule_inside image none (λ _. UnclearNode) (λ trie. node_rule_near trie _ (met_nodes trie)) place broken
  place_inside rule.SymbolKind place broken = symbol_near image none (λ symtab symbol. IsSeenTwice image symtab (symbol_at image symbol)) place broken
  place_inside rule.SymbolTotal place broken = symbol_near image none (PassesImage image) place broken
  place_inside rule.ExportSymbol place broken = elim broken [
    | inl defined ↦ symbol_near image none (DisagreesEarlier image) place defined
    | inr exported ↦ symbol_near image none (λ symtab symbol. IsUnlikeTrie image symtab (symbol_at image symbol)) place exported
  ]
  place_inside rule.IndirectName place broken = indirect_near place broken
  place_inside rule.ImportLibrary place broken = symbol_near image none (λ symtab symbol. IsFromOther image symtab (symbol_at image symbol)) place broken.1
  place_inside rule.SignatureSlot place broken = entry_of_signature_near IsBadSlot place broken
  place_inside rule.DirectoryAgree place broken = entry_of_signature_near IsDisagreeing place broken
  place_inside other place broken = absurd broken
