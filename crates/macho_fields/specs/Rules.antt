-- Where each rule is broken: the rule, and the place that is reported. docs/rules/layout.md says the same
-- in words, and names the structures. A rule is judged where the rules before it are unbroken.
use Rattle.std.specs.Prelude.{◌≡◌, ◌≢◌, ℕ, ◌+◌, ◌*◌, ◌<◌, ◌⊎◌, List, length, Option, None, IsSomeAnd, Any, All, Contains}
use Rattle.macho_fields.specs.Universal.{IsUniversal, entry_count, entry_place, slices_of, table_end, slice_bytes, masked, IsImage, IsForeign, IsSliceOutside, IsSliceInTable, IsSliceMisaligned, OverlapsEarlierSlice, RepeatsEarlierArch}
use Rattle.macho_fields.specs.Image.{word, cpu_type, cpu_subtype, file_type, command_count, commands_end, IsGood, IsChain, AreCommands, with_cmd}
use Rattle.macho_fields.specs.FileTypes.{file_type_of}
use Rattle.macho_fields.specs.Command.{IsShort, RepeatsEarlier, IsMisnamed, HasBadName}
use Rattle.macho_fields.specs.Segment.{segments_of, AtSection, section_count, PassesLastAddress, IsLongerInFile, PassesImage, OverlapsEarlier, IsOutsideMemory, IsMisplaced, HasRelocsOutside, HasNoEntry}
use Rattle.macho_fields.specs.Symbol.{symbol_count, indirectsymoff, nindirectsyms, groups_of, tables_of, IsOutside, AtSymbol, HasEndlessName, IsInNoSection, PassesSymbols, NamesNoSymbol}
use Rattle.macho_fields.specs.declared.header.loader.TheConstants as loader
use Rattle.macho_fields.specs.declared.rule.Rule.{Rule}
use Rattle.macho_fields.specs.declared.rule.Rule.TheVariants as rule

-- Rules of the file (mach-o/fat.h: fat_header, fat_arch, fat_arch_64)

-- the entry of the table that is at the place, entry k, has P
abbrev pub AtEntry : List ℕ → (ℕ → Type 0) → ℕ → Type 0
AtEntry file P place = (k : ℕ) × (k < entry_count file) × (place ≡ entry_place file k) × P k

-- the file breaks the rule at the place
abbrev pub BreaksFile : List ℕ → Rule → ℕ → Type 0
BreaksFile file rule.Magic place = (place ≡ 0) × ¬ (IsUniversal file ⊎ IsImage file)
BreaksFile file rule.FatTruncated place =
    (place ≡ 4) × IsUniversal file × ((length file < 8) ⊎ (length file < table_end file))
BreaksFile file rule.FatSliceOutside place =
    IsUniversal file × AtEntry file (IsSliceOutside file) place
BreaksFile file rule.FatSliceInTable place =
    IsUniversal file × AtEntry file (IsSliceInTable file) place
BreaksFile file rule.FatAlign place =
    IsUniversal file × AtEntry file (IsSliceMisaligned file) place
BreaksFile file rule.FatOverlap place =
    IsUniversal file × AtEntry file (OverlapsEarlierSlice file) place
BreaksFile file rule.FatDuplicate place =
    IsUniversal file × AtEntry file (RepeatsEarlierArch file) place
BreaksFile file rule.FatSliceMagic place =
    IsUniversal file
    × Any (λ slice. (place ≡ slice.start) × IsForeign (slice_bytes file slice))
    (slices_of file)
BreaksFile file rule.FatEmpty place =
    (place ≡ 4) × IsUniversal file
    × All (λ slice. ¬ IsImage (slice_bytes file slice)) (slices_of file)
BreaksFile file other place = ⊥

-- Rules of the header of an image, and of the walk over its commands. The architecture is the one in
-- the image's entry. (mach-o/loader.h: mach_header_64, load_command)
abbrev pub BreaksHeader : List ℕ → Option (ℕ × ℕ) → Rule → ℕ → Type 0
BreaksHeader image arch rule.HeaderTruncated place =
    (place ≡ 0) × (length image < loader.MACH_HEADER_64_SIZE)
BreaksHeader image arch rule.ArchMismatch place =
    (place ≡ 4)
    × IsSomeAnd arch (λ pair.
    (pair.0 ≢ cpu_type image) ⊎ (masked pair.1 ≢ masked (cpu_subtype image)))
BreaksHeader image arch rule.FileType place =
    (place ≡ 12) × (file_type_of (file_type image) ≡ None)
BreaksHeader image arch rule.CommandsOutside place =
    (place ≡ 20) × (length image < commands_end image)
BreaksHeader image arch rule.CommandWalk place =
    (places : List ℕ) × (length places < command_count image) × IsChain image places place
    × ¬ IsGood image place
BreaksHeader image arch other place = ⊥

-- Rules of an image that need the places of its commands (mach-o/loader.h: the structure of each
-- command, section_64; mach-o/nlist.h: nlist_64; mach-o/reloc.h: relocation_info of 8 bytes)
abbrev pub BreaksCommands : List ℕ → List ℕ → Rule → ℕ → Type 0
BreaksCommands image commands rule.CommandShort place =
    Contains commands place × IsShort image place
BreaksCommands image commands rule.CommandRepeated place =
    Contains commands place × RepeatsEarlier image commands place
BreaksCommands image commands rule.DylibId place =
    (place ≡ 12) × IsMisnamed image commands
BreaksCommands image commands rule.Name place = Contains commands place × HasBadName image place
BreaksCommands image commands rule.SegmentAddress place =
    Contains (segments_of image commands) place × PassesLastAddress image place
BreaksCommands image commands rule.SegmentSize place =
    Contains (segments_of image commands) place × IsLongerInFile image place
BreaksCommands image commands rule.SegmentFile place =
    Contains (segments_of image commands) place × PassesImage image place
BreaksCommands image commands rule.SegmentOverlap place =
    Contains (segments_of image commands) place × OverlapsEarlier image commands place
BreaksCommands image commands rule.SectionAddress place =
    AtSection image commands (IsOutsideMemory image) place
BreaksCommands image commands rule.SectionFile place =
    AtSection image commands (IsMisplaced image) place
BreaksCommands image commands rule.SectionRelocs place =
    AtSection image commands (λ segment. HasRelocsOutside image) place
BreaksCommands image commands rule.TableRange place =
    Contains commands place × Any (IsOutside image) (tables_of image place)
BreaksCommands image commands rule.SymbolGroup place =
    Contains (with_cmd image loader.LC_DYSYMTAB commands) place
    × Any (PassesSymbols (symbol_count image commands)) (groups_of image place)
BreaksCommands image commands rule.SymbolName place =
    AtSymbol image commands (HasEndlessName image) place
BreaksCommands image commands rule.SymbolSection place =
    AtSymbol image commands (λ symtab. IsInNoSection image (section_count image commands)) place
BreaksCommands image commands rule.IndirectIndex place =
    Any (λ dysymtab. (k : ℕ) × (k < nindirectsyms image dysymtab)
    × (place ≡ indirectsymoff image dysymtab + 4 * k)
    × NamesNoSymbol (symbol_count image commands) (word image place))
    (with_cmd image loader.LC_DYSYMTAB commands)
BreaksCommands image commands rule.Entry place =
    Contains (with_cmd image loader.LC_MAIN commands) place × HasNoEntry image commands place
BreaksCommands image commands other place = ⊥

-- An image breaks a rule of its header and walk, or one that needs its commands.
abbrev pub BreaksImage : List ℕ → Option (ℕ × ℕ) → Rule → ℕ → Type 0
BreaksImage image arch r place =
    BreaksHeader image arch r place
    ⊎ ((commands : List ℕ) × AreCommands image commands × BreaksCommands image commands r place)
