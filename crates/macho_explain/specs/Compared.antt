-- What an explanation has of each rule: the numbers that the rule compares, and of overlaps what both parts
-- share. (docs/reference/explain.md)
use Rattle.std.specs.Prelude.{◌≡◌, ℕ, ◌+◌, ◌-◌, ◌*◌, ◌/◌, ◌%◌, ◌^◌, ◌≢◌, ◌≤◌, ◌<◌, ◌⊎◌, take, List, [], Any, length, Option, Some, MatchOption, IsSomeAnd, slice_get, true}
use Rattle.std.specs.Option.{option_map, option_map_or}
use Rattle.macho_fields.specs.Image.{command_cmd, command_size, commands_of}
use Rattle.macho_fields.specs.LoadCommands.{structure_of, table_fields, indirect_table}
use Rattle.macho_fields.specs.declared.load_command.TableFields.{TableFields}
use Rattle.macho_fields.specs.Segment.{all_segments, base_of, vmaddr, vmsize, fileoff, filesize, section_address, section_size, section_offset, reloff, nreloc, section_count}
use Rattle.macho_fields.specs.Symbol.{n_strx, n_sect}
use Rattle.macho_fields.specs.Universal.{FileSlice, slices_of, IsUniversal, OverlapsEarlierSlice, RepeatsEarlierArch}
use Rattle.macho_fields.specs.declared.header.loader.TheConstants as loader
use Rattle.macho_fields.specs.declared.rule.Rule.{Rule}
use Rattle.macho_fields.specs.declared.rule.Rule.TheVariants as rule
use Rattle.macho_chains.specs.ChainPointers.{pointer_of}
use Rattle.macho_tables.specs.DataInCode.{entry_at, entry_place}
use Rattle.macho_exports.specs.ExportTrie.{Node, node_at, export_in}
use Rattle.macho_exports.specs.Exports.{export_table}
use Rattle.macho_tables.specs.Homes.{bytes_of_segment, LacksHome}
use Rattle.macho_tables.specs.Kinds.{share_kind}
use Rattle.macho_tables.specs.Limits.{library_count}
use Rattle.macho_tables.specs.Numbers.{unsigned_at}
use Rattle.macho_tables.specs.StartNumbers.{IsStartAt}
use Rattle.macho_chains.specs.declared.chain_starts.PointerFormat.{PointerFormat}
use Rattle.macho_tables.specs.declared.data_in_code.DataInCodeEntry.{DataInCodeEntry}
use Rattle.macho_exports.specs.declared.export_trie.Target.{Target}
use Rattle.macho_exports.specs.declared.export_trie.Target.TheVariants as target
use Rattle.macho_fields.specs.declared.header.fixup_chains.TheConstants as chained
use Rattle.macho_spans.specs.Span.{end_of, Shares}
use Rattle.macho_spans.specs.declared.span.Span.{Span}
use Rattle.macho_symbols.specs.Indirects.{indirect_count, stride, IsUneven}
use Rattle.macho_image.specs.Segment.{reserved1}
use Rattle.macho_symbols.specs.Nlist.{library_ordinal}
use Rattle.macho_symbols.specs.Reloc.{relocation_at}
use Rattle.macho_symbols.specs.declared.reloc.Relocation.{Relocation}
use Rattle.macho_fields.specs.declared.header.reloc.TheConstants as reloc
use Rattle.macho_readers.specs.declared.files.TheConstants as files
use Rattle.macho_image.specs.Command.{first_with_cmd}
use Rattle.macho_image.specs.Symbol.{dysymtab_at, symbol_at}
use Rattle.macho_explain.specs.Alike.{IsDefinitionShown, IsEdgeShown, IsIndirectAt, IsSymbolKindShown, IsTotalShown}
use Rattle.macho_alike.specs.Exports.{HasClashAt}
use Rattle.macho_explain.specs.Commanded.{HasEarlier, HasSection, HasWalkEnd, IsGroupPast, field_shown, group_shown, obsolete_counts}
use Rattle.macho_explain.specs.Elements.{HasOverlap}
use Rattle.macho_explain.specs.Entries.{HasEntry, HasEntryWith, HasForeign}
use Rattle.macho_explain.specs.Explain.{all_loads, all_segment_loads, memory_of, IsCommandAt, IsUncounted, long_at, word_at, written}
use Rattle.macho_explain.specs.Identities.{IsAgreeShown, IsAnyDirectory, IsSlotPlace, IsSlotShown}
use Rattle.macho_explain.specs.Parts.{IsBefore, Share}
use Rattle.macho_explain.specs.Readers.{big_word_at, HasLaterLibrary, HasLaterSegment, IsBadStartShown, IsEncryptedShown, IsKindShown, IsNameShown, IsNamesShown, IsOfSameKind, IsOffItsPages, IsPageShown, IsProcessorShown, IsProtectionShown, IsShiftShown, IsTakenShown, IsUnevenShown}
use Rattle.macho_explain.specs.Seals.{HasOtherHashes, IsRepeatShown, ShowsHash}
use Rattle.macho_explain.specs.Signatures.{IsBlobShown, IsLimitShown, IsSuperblobShown, IsUnsoundShown, ShowsSignature}
use Rattle.macho_signature.specs.Signature.{bytes_at}
use Rattle.macho_explain.specs.Blobs.{InSignature, IsBlobAt, IsDirectoryPlace, IsLimitAt, IsRepeatAt}
use Rattle.macho_explain.specs.Fixups.{HasLead, HasMissing, InFixups, IsImportAt, IsImportsAt, IsShortAt, IsStartsAt}
use Rattle.macho_explain.specs.SectionItems.{HasInitOffset, HasRelocation}
use Rattle.macho_explain.specs.Streams.{HasBind, HasBindOpcode, HasRebase, HasRebaseOpcode, OfBinds, ShowsStep}
use Rattle.macho_explain.specs.declared.stream.Asked.TheVariants as asked
use Rattle.macho_opcodes.specs.declared.streams.Stream.TheVariants as streams
use Rattle.macho_explain.specs.Symbols.{HasSymbol}
use Rattle.macho_explain.specs.Wholes.{named_table, Opens, InWhole, InTable}
use Rattle.macho_rows.specs.Segments.{last_address}
use Rattle.macho_explain.specs.declared.conflict.Conflict.{Conflict}

-- Not all addresses of the section are in its segment: the section begins before the segment, or ends past it.
abbrev pub ShowsOutsideMemory : List ℕ → ℕ → ℕ → ℕ → ℕ → Type 0
ShowsOutsideMemory image segment section value limit =
    ((value ≡ section_address image section) × (limit ≡ vmaddr image segment) × (value < limit))
    ⊎ ((value ≡ last_address (section_address image section) (section_size image section))
    × (limit ≡ last_address (vmaddr image segment) (vmsize image segment)))

-- Where the bytes of the section begin, and where they should begin by its segment; or where they end, and where the
-- bytes of the segment, or the image, end.
abbrev pub ShowsMisplaced : List ℕ → ℕ → ℕ → ℕ → ℕ → Type 0
ShowsMisplaced image segment section value limit =
    let end = section_offset image section + section_size image section in
    ((value ≡ section_offset image section)
    × (limit ≡ written (fileoff image segment + (section_address image section - vmaddr image segment))))
    ⊎ ((value ≡ written end)
    × ((limit ≡ written (fileoff image segment + filesize image segment)) ⊎ (limit ≡ length image)))

-- An element shares bytes with an earlier one, or ends past the image.
abbrev pub SharesOrPasses : List ℕ → Conflict → Type 0
SharesOrPasses image conflict = Share conflict ⊎ (conflict.limit ≡ length image)

-- the number is the size of a table of chained fixups, as its command says
abbrev pub IsChainSize : List ℕ → ℕ → Type 0
IsChainSize image size = IsSomeAnd (named_table image loader.LC_DYLD_CHAINED_FIXUPS) (λ table. size ≡ table.len)

-- the 64 bits at the place are a pointer that binds the import with this ordinal
abbrev pub Binds : List ℕ → ℕ → ℕ → Type 0
Binds image place ordinal =
    (format : PointerFormat) × ((pointer_of format (long_at image place)).import ≡ Some ordinal)

-- the number at an offset of a table of function starts tells of a function at this address
abbrev pub IsStartShown : List ℕ → ℕ → ℕ → ℕ → Type 0
IsStartShown table base offset address =
    (function : ℕ) × IsStartAt table base offset function × (address ≡ written function)

-- a number at the place of an image, in its table, is
abbrev pub IsFunctionShown : List ℕ → ℕ → ℕ → Type 0
IsFunctionShown image place address =
    InWhole image (named_table image loader.LC_FUNCTION_STARTS)
    (λ start table offset. IsSomeAnd (base_of image (commands_of image)) (λ base. IsStartShown table base offset address))
    place

-- the size of the table of data in code, whose last entry is cut
abbrev pub IsRestShown : List ℕ → Conflict → Type 0
IsRestShown image c =
    IsSomeAnd (named_table image loader.LC_DATA_IN_CODE) (λ table. c.value ≡ table.len)
    × (c.limit ≡ loader.DATA_IN_CODE_ENTRY_SIZE) × (c.value % c.limit ≢ 0)

-- the size of an offset of an initializer, which is cut; or the address to which it leads, and the offset itself where
-- no segment has the base
abbrev pub IsInitializerShown : List ℕ → ℕ → Conflict → Type 0
IsInitializerShown image place c =
    (c.limit ≡ loader.INIT_OFFSET_SIZE)
    ⊎ MatchOption (base_of image (commands_of image)) ((c.value ≡ word_at image place) × (c.limit ≡ 0))
    (λ base. c.value ≡ written (base + word_at image place))

-- the kind of an entry of data in code, and the last one that has a meaning; or where its bytes end
abbrev pub IsEntryShown : DataInCodeEntry → Conflict → Type 0
IsEntryShown entry c =
    ((c.value ≡ entry.kind) × (c.limit ≡ loader.DICE_KIND_ABS_JUMP_TABLE32))
    ⊎ (c.value ≡ entry.offset + entry.length)

-- the place is at an offset of the export trie of the image, with P
abbrev pub InTrie : List ℕ → ℕ → (List ℕ → ℕ → Type 0) → Type 0
InTrie image place P = InWhole image (export_table image) (λ start trie offset. P trie offset) place

-- the flags of an export, or 0 where they do not end in its terminal part
unfoldable pub flags_shown : List ℕ → Span → ℕ
flags_shown trie terminal =
    option_map_or (λ flags. flags.0) (unsigned_at (take (end_of terminal) trie) terminal.start) 0

-- an export is in the terminal part, and what it leads to has P
abbrev pub HasExportTarget : List ℕ → Span → (Target → Type 0) → Type 0
HasExportTarget trie terminal P = IsSomeAnd (export_in trie terminal) (λ e. P e.0.target)

-- the ordinal of the library that has a symbol
abbrev pub HasOrdinal : ℕ → Target → Type 0
HasOrdinal value (target.Reexport ordinal name) = value ≡ ordinal
HasOrdinal value (target.Address address resolver) = ⊥

-- a segment has the address
abbrev pub HasAddress : List ℕ → ℕ → Type 0
HasAddress image address =
    (segment : ℕ) × (vmaddr image segment ≤ address)
    × (address < vmaddr image segment + vmsize image segment)

-- an address, or the address of its resolver where a segment has the first. Both count from the base.
abbrev pub IsAddressShown : List ℕ → ℕ → ℕ → Option ℕ → ℕ → Type 0
IsAddressShown image base address resolver value =
    (value ≡ written (base + address))
    ⊎ (HasAddress image (base + address) × IsSomeAnd resolver (λ r. value ≡ written (base + r)))

-- the address of a symbol, or of its resolver, counted from the base of the image
abbrev pub LeadsTo : List ℕ → ℕ → Target → Type 0
LeadsTo image value (target.Address address resolver) =
    IsSomeAnd (base_of image (commands_of image)) (λ base. IsAddressShown image base address resolver value)
LeadsTo image value (target.Reexport ordinal name) = ⊥

-- the node at an offset of the trie has P of its terminal part, and of where it ends
abbrev pub HasNode : List ℕ → ℕ → (Span → ℕ → Type 0) → Type 0
HasNode trie offset P = IsSomeAnd (node_at trie offset) (λ node. P node.terminal node.end)

-- What only proofs need: how many items a field of the command at a place says, if it says some
abbrev pub IsObsoleteFound : List ℕ → ℕ → ℕ → ℕ → Option (ℕ × ℕ) → Type 0
IsObsoleteFound image place index field found =
    let count = word_at image (written (place + field)) in
    MatchOption found (count ≡ 0) (λ one. (one.0 ≡ index) × (0 < one.1) × (one.1 ≡ count))

-- What only proofs need: where the terminal part of a node is, and where the node ends.
abbrev pub node_bounds : Node → Span × ℕ
node_bounds node = (node.terminal, node.end)

-- what the relocation names; or its length, and the length of a pointer
abbrev pub IsRelocationShown : Relocation → Conflict → Type 0
IsRelocationShown relocation c =
    (c.value ≡ relocation.symbolnum) ⊎ ((c.value ≡ relocation.length) × (c.limit ≡ reloc.POINTER_LENGTH))

-- a thread and an earlier one, or its size
abbrev pub IsThreadShown : List ℕ → ℕ → Conflict → Type 0
IsThreadShown image place c =
    ((c.value ≡ command_cmd image place) × IsBefore c)
    ⊎ ((c.value ≡ command_size image place) × (c.limit ≡ 0))

-- where the first 8 bytes of a command end, or all its bytes; or its size, which no command can have
abbrev pub IsWalkShown : List ℕ → ℕ → ℕ → ℕ → Type 0
IsWalkShown image place value limit =
    ((limit ≡ 32 + word_at image 20)
    × ((value ≡ written (place + 8)) ⊎ (value ≡ written (place + word_at image (written (place + 4))))))
    ⊎ ((value ≡ word_at image (written (place + 4))) × (limit ≡ 8))

-- the address of the entry, by the first part, which has the base; or where none has it, its distance from it
abbrev pub IsEntryPointShown : List ℕ → ℕ → Conflict → Type 0
IsEntryPointShown image place c =
    MatchOption c.first (c.value ≡ long_at image (place + 8))
    (λ memory. c.value ≡ written (memory.start + long_at image (place + 8)))

-- a byte that has no place there is not 0
abbrev pub IsByteShown : List ℕ → ℕ → Conflict → Type 0
IsByteShown image place c = (slice_get image place ≡ Some c.value) × (c.limit ≡ 0)

-- the number of an architecture with this cputype
abbrev pub IsArchOf : ℕ → ℕ → Type 0
IsArchOf cputype number = number / 2 ^ 32 ≡ cputype

-- where the file bytes of a segment end
abbrev pub IsFileEnd : List ℕ → ℕ → Type 0
IsFileEnd image end = (segment : ℕ) × (end ≡ written (fileoff image segment + filesize image segment))

-- no segment can be the home; or where a segment ends that is not the home; or both parts share bytes
abbrev pub IsHomelessShown : List ℕ → Conflict → Type 0
IsHomelessShown image c = (c.limit ≡ 0) ⊎ IsFileEnd image c.limit ⊎ Share c

-- the size of the section, which its stubs or pointers do not fill, and the size of one; or where their indirect
-- entries end, and how many the image has
abbrev pub IsIndirectShown : List ℕ → ℕ → Conflict → Type 0
IsIndirectShown image section c =
    (IsUneven image section × (c.value ≡ section_size image section) × (c.limit ≡ stride image section))
    ⊎ ((c.value ≡ written (reserved1 image section + section_size image section / stride image section))
    × (c.limit ≡ indirect_count image))

-- dysymtab_command: a table that only older loaders follow has so many items, and some
abbrev pub IsCountShown : List ℕ → ℕ → ℕ → Type 0
IsCountShown image place count =
    (0 < count) × Any (λ field. count ≡ word_at image (written (place + field))) obsolete_counts

-- a group of symbols of the command at the place ends past so many, in numbers
abbrev pub IsGroupShown : List ℕ → ℕ → Conflict → Type 0
IsGroupShown image place c =
    (c.limit < c.value)
    × ((k : ℕ) × (k < 3) × (c.value ≡ (group_shown image place k).0 + (group_shown image place k).1))

-- a table that a command at a place bounds by these fields: where it begins, how many bytes it has, and that it has
-- some, and ends past the image
abbrev pub start_shown : List ℕ → ℕ → TableFields → ℕ
start_shown image place fields = field_shown image fields.width (written (place + fields.place))

abbrev pub size_shown : List ℕ → ℕ → TableFields → ℕ
size_shown image place fields =
    field_shown image fields.width (written (place + fields.count)) * fields.item_size

abbrev pub IsTablePast : List ℕ → ℕ → TableFields → Type 0
IsTablePast image place fields =
    (0 < size_shown image place fields)
    × (length image < start_shown image place fields + size_shown image place fields)

-- a table that ends past the image, of a command with this cmd
abbrev pub HasTablePast : List ℕ → ℕ → ℕ → Type 0
HasTablePast image place cmd =
    Any (IsTablePast image place) (option_map_or table_fields (structure_of cmd) [])

-- its bytes
abbrev pub span_shown : List ℕ → ℕ → TableFields → Span
span_shown image place fields = record {
  start = start_shown image place fields;
  len = written (size_shown image place fields);
}

-- loaders look for this table of a command with this cmd: of LC_DYSYMTAB for the indirect entries alone
abbrev pub IsLookedFor : ℕ → TableFields → Type 0
IsLookedFor cmd fields = (cmd ≢ loader.LC_DYSYMTAB) ⊎ (fields.place ≡ indirect_table.place)

-- they do, and the table has bytes and no home
abbrev pub IsLostTable : List ℕ → ℕ → ℕ → TableFields → Type 0
IsLostTable image place cmd fields =
    IsLookedFor cmd fields × LacksHome image (span_shown image place fields)

-- a command with this cmd has a table without a home
abbrev pub HasLostTable : List ℕ → ℕ → ℕ → Type 0
HasLostTable image place cmd =
    Any (IsLostTable image place cmd) (option_map_or table_fields (structure_of cmd) [])

-- The subject of a rule, for the rules whose explanation promises it

abbrev pub HasHeader : List ℕ → ℕ → Type 0
HasHeader image place = place < loader.MACH_HEADER_64_SIZE

abbrev pub HasStart : List ℕ → ℕ → Type 0
HasStart image place = place ≡ 0

abbrev pub HasCommand : List ℕ → ℕ → Type 0
HasCommand image place =
    ¬ IsUncounted image × (k : ℕ) × (slice_get (all_loads image) k ≡ Some place)

abbrev pub HasSegment : List ℕ → ℕ → Type 0
HasSegment image place =
    HasCommand image place × (k : ℕ) × (slice_get (all_segment_loads image) k ≡ Some place)

abbrev pub HasByte : List ℕ → ℕ → Type 0
HasByte image place = place < length image

-- fat_header.nfat_arch of a universal file is there
abbrev pub HasCount : List ℕ → ℕ → Type 0
HasCount file place = (place ≡ 4) × IsUniversal file

abbrev pub HasCommandByte : List ℕ → ℕ → Type 0
HasCommandByte image place = HasByte image place × ¬ IsUncounted image × (k : ℕ) × IsCommandAt image k place

-- an entry of the table of indirect symbols is there
abbrev pub HasIndirect : List ℕ → ℕ → Type 0
HasIndirect image place =
    Opens image
    × IsSomeAnd (option_map (dysymtab_at image) (first_with_cmd image loader.LC_DYSYMTAB (commands_of image))) (λ dysymtab.
    (k : ℕ) × (k < dysymtab.nindirectsyms) × (place ≡ dysymtab.indirectsymoff + loader.INDIRECT_ENTRY_SIZE * k))

-- the table of chained fixups begins there; or it has no bytes, and a command is there
abbrev pub HasChainHeader : List ℕ → ℕ → Type 0
HasChainHeader image place =
    Opens image
    × IsSomeAnd (named_table image loader.LC_DYLD_CHAINED_FIXUPS) (λ table.
    ((table.len ≡ 0) × HasCommand image place) ⊎ ((0 < table.len) × (place ≡ table.start)))

-- the number at an offset of a table of function starts tells of a function
abbrev pub HasFunction : List ℕ → List ℕ → ℕ → Type 0
HasFunction image table offset =
    IsSomeAnd (base_of image (commands_of image)) (λ base. (function : ℕ) × IsStartAt table base offset function)

-- an entry of data in code begins at an offset of its table, whole or not
abbrev pub IsEntryPlace : List ℕ → ℕ → Type 0
IsEntryPlace table offset = (k : ℕ) × (offset ≡ entry_place k) × (offset < length table)

-- the place is in the export trie, or ends it
abbrev pub HasNodeAt : List ℕ → ℕ → Type 0
HasNodeAt image place = Opens image × InTrie image place (λ trie offset. offset ≤ length trie)

-- a node of the trie is there, and its terminal part has P
abbrev pub HasNodeWith : (List ℕ → List ℕ → Span → Type 0) → List ℕ → ℕ → Type 0
HasNodeWith P image place =
    Opens image
    × InTrie image place (λ trie offset. (offset ≤ length trie) × HasNode trie offset (λ terminal end. P image trie terminal))

-- a node of the trie is there, and one of its labels is empty, or begins with another
abbrev pub HasClashNode : List ℕ → ℕ → Type 0
HasClashNode image place =
    Opens image × InTrie image place (λ trie offset. (offset ≤ length trie) × HasClashAt trie offset)

-- What is shown: of a rule that is judged over the file, by the index of a slice; of one that is judged over each
-- image. First what the rule is about, then what its numbers, and both parts, are.
pub data Shown : Type 1 where
  OfFile : (List ℕ → ℕ → Type 0) → (List ℕ → ℕ → Option ℕ → Conflict → Type 0) → Shown
  OfImage : (List ℕ → ℕ → Type 0) → (List ℕ → ℕ → Conflict → Type 0) → Shown

-- the slice with the index has P
abbrev pub OfSlice : List ℕ → Option ℕ → (FileSlice → Type 0) → Type 0
OfSlice file index P =
    IsSomeAnd index (λ k. IsSomeAnd (slice_get (slices_of file) k) P)

abbrev pub shown : Rule → Shown
shown rule.Magic = OfFile HasStart (λ file place index c. (place ≡ 0) × (c.limit ≡ loader.MH_MAGIC_64))
shown rule.FatTruncated = OfFile HasCount (λ file place index c. (place ≡ 4) × (c.limit ≡ length file))
shown rule.FatSliceOutside = OfFile HasEntry (λ file place index c. OfSlice file index (λ slice. (c.value ≡ written (slice.start + slice.size)) × (c.limit ≡ length file)))
shown rule.FatSliceInTable = OfFile HasEntry (λ file place index c. OfSlice file index (λ slice. c.value ≡ slice.start))
shown rule.FatAlign = OfFile HasEntry (λ file place index c. OfSlice file index (λ slice. c.value ≡ slice.start))
shown rule.FatOverlap = OfFile (HasEntryWith OverlapsEarlierSlice) (λ file place index c. Share c × IsBefore c)
shown rule.FatDuplicate = OfFile (HasEntryWith RepeatsEarlierArch) (λ file place index c. (c.value ≡ c.limit) × IsBefore c)
shown rule.FatSliceMagic = OfFile HasForeign (λ file place index c. OfSlice file index (λ slice. slice.start ≡ place) × (c.limit ≡ loader.MH_MAGIC_64))
shown rule.FatEmpty = OfFile HasCount (λ file place index c. (place ≡ 4) × (c.value ≡ 0) × (c.limit ≡ 1))
shown rule.HeaderTruncated = OfImage HasHeader (λ image place c. (c.value ≡ 32) × (c.limit ≡ length image))
shown rule.ArchMismatch = OfImage HasHeader (λ image place c. IsArchOf (word_at image 4) c.value)
shown rule.FileType = OfImage HasHeader (λ image place c. (c.value ≡ word_at image 12) × (c.limit ≡ 0))
shown rule.CommandsOutside = OfImage HasHeader (λ image place c. (c.value ≡ 32 + word_at image 20) × (c.limit ≡ length image))
shown rule.CommandWalk = OfImage HasWalkEnd (λ image place c. IsWalkShown image place c.value c.limit)
shown rule.CommandShort = OfImage HasCommand (λ image place c. c.value ≡ command_size image place)
shown rule.CommandRepeated = OfImage (λ image place. HasCommand image place × HasEarlier (all_loads image) (λ earlier. command_cmd image earlier ≡ command_cmd image place) place) (λ image place c. (c.value ≡ command_cmd image place) × (c.limit ≡ command_cmd image place) × IsBefore c)
shown rule.DylibId = OfImage HasHeader (λ image place c. MatchOption c.second (c.value ≡ 0) (λ command. c.value ≡ 1))
shown rule.Name = OfImage HasCommand (λ image place c. c.value ≡ word_at image (place + 8))
shown rule.SegmentAddress = OfImage HasSegment (λ image place c. (c.value ≡ vmsize image place) × (c.limit ≡ written (2 ^ 64 - vmaddr image place)))
shown rule.SegmentSize = OfImage HasSegment (λ image place c. (c.value ≡ filesize image place) × (c.limit ≡ vmsize image place))
shown rule.SegmentFile = OfImage HasSegment (λ image place c. (c.value ≡ written (fileoff image place + filesize image place)) × (c.limit ≡ length image))
shown rule.SegmentOverlap = OfImage (λ image place. HasSegment image place × HasEarlier (all_segment_loads image) (λ earlier. Shares (memory_of image earlier) (memory_of image place)) place) (λ image place c. Share c)
shown rule.SectionAddress = OfImage HasSection (λ image place c. (segment : ℕ) × ShowsOutsideMemory image segment place c.value c.limit)
shown rule.SectionFile = OfImage HasSection (λ image place c. (segment : ℕ) × ShowsMisplaced image segment place c.value c.limit)
shown rule.SectionRelocs = OfImage HasSection (λ image place c. (c.value ≡ reloff image place + 8 * nreloc image place) × (c.limit ≡ length image))
shown rule.TableRange = OfImage (λ image place. HasCommand image place × HasTablePast image place (command_cmd image place)) (λ image place c. (c.limit ≡ length image) × (c.limit ≤ c.value))
shown rule.SymbolGroup = OfImage (λ image place. HasCommand image place × ((k : ℕ) × IsGroupPast image place k)) IsGroupShown
shown rule.SymbolName = OfImage HasSymbol (λ image place c. c.value ≡ n_strx image place)
shown rule.SymbolSection = OfImage HasSymbol (λ image place c. (c.value ≡ n_sect image place) × (c.limit ≡ section_count image (commands_of image)))
shown rule.IndirectIndex = OfImage HasIndirect (λ image place c. c.value ≡ word_at image place)
shown rule.Entry = OfImage HasCommand (λ image place c. IsEntryPointShown image place c)
shown rule.FatStrayByte = OfFile HasByte (λ file place index c. IsByteShown file place c)
shown rule.CommandsEnd = OfImage (λ image place. HasHeader image place × ¬ IsUncounted image) (λ image place c. c.limit ≡ 32 + word_at image 20)
shown rule.HeaderSegment = OfImage HasHeader (λ image place c. c.value ≡ 32 + word_at image 20)
shown rule.SegmentFileOverlap = OfImage (λ image place. HasSegment image place × HasEarlier (all_segment_loads image) (λ earlier. Shares (bytes_of_segment image earlier) (bytes_of_segment image place)) place) (λ image place c. Share c)
shown rule.ElementOverlap = OfImage (λ image place. ¬ IsUncounted image × ((k : ℕ) × IsCommandAt image k place) × HasOverlap image place) (λ image place c. SharesOrPasses image c)
shown rule.StrayByte = OfImage HasByte (λ image place c. IsByteShown image place c)
shown rule.EncryptedRange = OfImage (λ image place. HasCommand image place × (command_cmd image place ≡ loader.LC_ENCRYPTION_INFO_64)) (λ image place c. (c.limit ≡ 32 + word_at image 20) ⊎ (c.limit ≡ 0) ⊎ IsFileEnd image c.limit)
shown rule.CommandSlack = OfImage HasCommandByte (λ image place c. IsByteShown image place c)
shown rule.UnclaimedByte = OfImage HasByte (λ image place c. IsByteShown image place c)
shown rule.TableRepeated = OfImage (λ image place. HasCommand image place × HasEarlier (all_loads image) (λ earlier. share_kind (command_cmd image earlier) (command_cmd image place) ≡ true) place) (λ image place c. (c.value ≡ command_cmd image place) × (share_kind c.limit c.value ≡ true) × IsBefore c)
shown rule.FunctionVariants = OfImage HasCommand (λ image place c. (c.value ≡ command_cmd image place) × (c.limit ≡ 0))
shown rule.TableHome = OfImage (λ image place. HasCommand image place × Opens image × HasLostTable image place (command_cmd image place)) (λ image place c. IsHomelessShown image c)
shown rule.HeaderHome = OfImage HasHeader (λ image place c. (c.limit ≡ 1) ⊎ ((segment : ℕ) × (c.limit ≡ vmaddr image segment)))
shown rule.RebaseOpcode = OfImage HasRebaseOpcode (λ image place c. (slice_get image place ≡ Some c.value) × (c.limit ≡ 143))
shown rule.RebaseSlot = OfImage (HasRebase asked.Slot) (λ image place c. ShowsStep asked.Slot streams.Rebase image place c)
shown rule.RebaseTotal = OfImage (HasRebase asked.Total) (λ image place c. ShowsStep asked.Total streams.Rebase image place c)
shown rule.BindOpcode = OfImage HasBindOpcode (λ image place c. (slice_get image place ≡ Some c.value) × (c.limit ≡ 207))
shown rule.BindLibrary = OfImage (HasBind asked.Library) (λ image place c. OfBinds (λ one. ShowsStep asked.Library one image place c))
shown rule.BindSymbol = OfImage (HasBind asked.Symbol) (λ image place c. OfBinds (λ one. ShowsStep asked.Symbol one image place c))
shown rule.BindSlot = OfImage (HasBind asked.Slot) (λ image place c. OfBinds (λ one. ShowsStep asked.Slot one image place c))
shown rule.BindTotal = OfImage (HasBind asked.Total) (λ image place c. OfBinds (λ one. ShowsStep asked.Total one image place c))
shown rule.BindNames = OfImage (HasBind asked.Names) (λ image place c. OfBinds (λ one. ShowsStep asked.Names one image place c))
shown rule.ChainHeader = OfImage HasChainHeader (λ image place c. IsChainSize image c.value × (c.limit ≡ chained.DYLD_CHAINED_FIXUPS_HEADER_SIZE))
shown rule.ChainStarts = OfImage (InFixups IsStartsAt) (λ image place c. IsChainSize image c.limit ⊎ ((c.value ≡ word_at image place) × (c.limit ≡ length (all_segments image))))
shown rule.ChainImports = OfImage (InFixups IsImportsAt) (λ image place c. IsChainSize image c.limit)
shown rule.ChainTotal = OfImage (InFixups IsShortAt) (λ image place c. IsChainSize image c.limit)
shown rule.ChainLibrary = OfImage (InFixups IsImportAt) (λ image place c. c.limit ≡ library_count image)
shown rule.ChainSlot = OfImage HasLead (λ image place c. 8 ≤ c.value)
shown rule.ChainBind = OfImage HasMissing (λ image place c. Binds image place c.value × (c.limit ≤ c.value))
shown rule.ExportNode = OfImage HasNodeAt (λ image place c. InTrie image place (λ trie offset. (c.value ≡ offset) × (c.limit ≡ length trie)))
shown rule.ExportTotal = OfImage (HasNodeWith (λ image trie terminal. Unit {0})) (λ image place c. InTrie image place (λ trie offset. HasNode trie offset (λ terminal end. c.value ≡ end - offset) × (c.limit ≡ length trie)))
shown rule.ExportTerminal = OfImage (HasNodeWith (λ image trie terminal. Unit {0})) (λ image place c. InTrie image place (λ trie offset. HasNode trie offset (λ terminal end. c.value ≡ flags_shown trie terminal)) × (c.limit ≡ 0x1f))
shown rule.ExportLibrary = OfImage (HasNodeWith (λ image trie terminal. (ordinal : ℕ) × HasExportTarget trie terminal (HasOrdinal ordinal))) (λ image place c. InTrie image place (λ trie offset. HasNode trie offset (λ terminal end. HasExportTarget trie terminal (HasOrdinal c.value))) × (c.limit ≡ library_count image))
shown rule.ExportAddress = OfImage (HasNodeWith (λ image trie terminal. (address : ℕ) × HasExportTarget trie terminal (LeadsTo image address))) (λ image place c. InTrie image place (λ trie offset. HasNode trie offset (λ terminal end. HasExportTarget trie terminal (LeadsTo image c.value))) × (c.limit ≡ 0))
shown rule.FunctionNumber = OfImage (λ image place. InTable image loader.LC_FUNCTION_STARTS (λ start table offset. offset < length table) place) (λ image place c. IsByteShown image place c)
shown rule.FunctionStart = OfImage (λ image place. InTable image loader.LC_FUNCTION_STARTS (λ start table offset. HasFunction image table offset) place) (λ image place c. IsFunctionShown image place c.value)
shown rule.DataInCode = OfImage (λ image place. InTable image loader.LC_DATA_IN_CODE (λ start table offset. IsEntryPlace table offset) place) (λ image place c. IsRestShown image c ⊎ IsEntryShown (entry_at image place) c)
shown rule.InitOffset = OfImage HasInitOffset (λ image place c. IsInitializerShown image place c)
shown rule.SignatureBlob = OfImage (InSignature IsBlobAt) (λ image place c. ShowsSignature image place c.value c.limit IsSuperblobShown (λ start. IsBlobShown))
shown rule.SignatureDirectory = OfImage (InSignature IsDirectoryPlace) (λ image place c. ShowsSignature image place c.value c.limit (λ signature value limit. (value ≡ 0) × (limit ≡ 1)) (λ start signature k. IsUnsoundShown start (bytes_at signature k)))
shown rule.SignatureWhole = OfImage (InSignature IsLimitAt) (λ image place c. ShowsSignature image place c.value c.limit (λ signature value limit. ⊥) IsLimitShown)
shown rule.SymbolLibrary = OfImage HasSymbol (λ image place c. (c.value ≡ library_ordinal (symbol_at image place)) × (c.limit ≡ library_count image))
shown rule.SymbolValue = OfImage HasSymbol (λ image place c. (c.value ≡ (symbol_at image place).value) × (c.limit ≡ 0))
shown rule.SymbolIndirect = OfImage HasSymbol (λ image place c. c.value ≡ (symbol_at image place).value)
shown rule.IndirectRange = OfImage (λ image place. Opens image × HasSection image place) IsIndirectShown
shown rule.ObsoleteTable = OfImage (λ image place. HasCommand image place × (command_cmd image place ≡ loader.LC_DYSYMTAB) × ((count : ℕ) × IsCountShown image place count)) (λ image place c. IsCountShown image place c.value × (c.limit ≡ 0))
shown rule.Relocation = OfImage HasRelocation (λ image place c. IsRelocationShown (relocation_at image place) c)
shown rule.Thread = OfImage HasCommand (λ image place c. IsThreadShown image place c)
shown rule.CommandContent = OfImage HasCommand (λ image place c. c.value ≡ command_size image place)
shown rule.SignatureMissing = OfImage HasStart (λ image place c. (place ≡ 0) × (c.value ≡ 0) × (c.limit ≡ 1))
shown rule.SignatureExecutable = OfImage (λ image place. HasSegment image place × Opens image × IsSomeAnd (named_table image loader.LC_CODE_SIGNATURE) (Shares (bytes_of_segment image place))) (λ image place c. Share c)
shown rule.DirectoryRepeated = OfImage (InSignature IsRepeatAt) (λ image place c. IsRepeatShown image place c.value × (c.limit ≡ c.value) × IsBefore c)
shown rule.SignatureSlack = OfImage (λ image place. HasByte image place × InTable image loader.LC_CODE_SIGNATURE (λ start signature offset. Unit {0}) place) (λ image place c. IsByteShown image place c)
shown rule.SignatureHash = OfImage HasOtherHashes (λ image place c. ShowsHash image place c.value c.limit)
shown rule.FatCount = OfFile HasCount (λ file place index c. (c.value ≡ big_word_at file 4) × (c.limit ≡ files.LEAST_CLASS_COUNT))
shown rule.FatHeader = OfFile HasEntry (λ file place index c. OfSlice file index (λ slice. IsProcessorShown file place slice c))
shown rule.FatPage = OfFile (HasEntryWith IsOffItsPages) (λ file place index c. OfSlice file index (λ slice. IsPageShown file place slice c))
shown rule.CommandKnown = OfImage HasCommand (λ image place c. (c.value ≡ command_cmd image place) × (c.limit ≡ 0))
shown rule.CommandOnce = OfImage (λ image place. HasCommand image place × HasEarlier (all_loads image) (IsOfSameKind image place) place) (λ image place c. IsKindShown image place c × IsBefore c)
shown rule.SegmentName = OfImage (λ image place. HasSegment image place × Opens image) IsNameShown
shown rule.SegmentPage = OfImage HasSegment IsUnevenShown
shown rule.SegmentProtection = OfImage HasSegment IsProtectionShown
shown rule.BytesEncrypted = OfImage (λ image place. HasSegment image place ⊎ (HasCommand image place × (command_cmd image place ≡ loader.LC_ENCRYPTION_INFO_64))) IsEncryptedShown
shown rule.NumberShift = OfImage (λ image place. (HasSegment image place × (HasLaterSegment image place ⊎ Opens image)) ⊎ ((HasCommand image place × ¬ HasSegment image place) × HasLaterLibrary image place)) IsShiftShown
shown rule.SectionName = OfImage (λ image place. Opens image × HasSection image place) IsNamesShown
shown rule.SectionAlone = OfImage (λ image place. Opens image × HasSection image place) IsTakenShown
shown rule.EntryOne = OfImage HasCommand IsBadStartShown
shown rule.BindOnce = OfImage (HasBind asked.First) (λ image place c. OfBinds (λ one. ShowsStep asked.First one image place c))
shown rule.ExportEdge = OfImage HasClashNode (λ image place c. InTrie image place (λ trie offset. IsEdgeShown trie offset c.value c.limit))
shown rule.SymbolKind = OfImage HasSymbol IsSymbolKindShown
shown rule.SymbolTotal = OfImage HasSymbol IsTotalShown
shown rule.ExportSymbol = OfImage HasSymbol IsDefinitionShown
shown rule.IndirectName = OfImage HasIndirect (λ image place c. IsIndirectAt image c.value place × (c.limit ≡ word_at image place))
shown rule.ImportLibrary = OfImage HasSymbol (λ image place c. (c.value ≡ library_ordinal (symbol_at image place)) × (c.limit ≡ library_count image))
shown rule.SignatureSlot = OfImage (InSignature IsSlotPlace) IsSlotShown
shown rule.DirectoryAgree = OfImage (InSignature IsAnyDirectory) IsAgreeShown
