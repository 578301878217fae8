-- Where each strict rule is broken, by a file that breaks no other rule: the rule, and the place that
-- is reported. docs/rules/strict.md says the same in words.
use Rattle.std.specs.Prelude.{◌≡◌, ◌≢◌, ℕ, ◌+◌, ◌≤◌, ◌<◌, ◌⊎◌, List, length, slice_get, Some, true, All, Any, Contains, bit_and}
use Rattle.macho_spans.specs.Span.{Covers, Holds, Shares, end_of}
use Rattle.macho_fields.specs.Command.{HasStructure, least_size, name_start}
use Rattle.macho_fields.specs.Field.{HasZero}
use Rattle.macho_fields.specs.Image.{cpu_type, command_size, commands_of, commands_end, with_cmd, IsChain}
use Rattle.macho_fields.specs.LoadCommands.{has_name, encrypted_table}
use Rattle.macho_fields.specs.NonZero.{IsNonZero}
use Rattle.macho_fields.specs.Segment.{fileoff, filesize, vmsize, initprot}
pub use Rattle.macho_fields.specs.Segment.{all_segments}
use Rattle.macho_fields.specs.Symbol.{table_place, item_count}
use Rattle.macho_fields.specs.Universal.{IsUniversal, table_end, slices_of, HasPlace}
use Rattle.macho_strict.specs.Elements.{elements_of}
use Rattle.macho_strict.specs.Nops.{is_nop}
use Rattle.macho_strict.specs.declared.elements.Element.{Element}
use Rattle.macho_fields.specs.declared.header.loader.TheConstants as loader
use Rattle.macho_fields.specs.declared.header.vm_prot.TheConstants as vm_prot
use Rattle.macho_fields.specs.declared.load_command.Structure.{Structure}
use Rattle.macho_fields.specs.declared.rule.Rule.{Rule}
use Rattle.macho_fields.specs.declared.rule.Rule.TheVariants as rule

-- a universal file has such a byte after its table, in no slice
abbrev pub BreaksStrictFile : List ℕ → Rule → ℕ → Type 0
BreaksStrictFile file rule.FatStrayByte place =
    IsUniversal file × IsNonZero file place × (table_end file ≤ place)
    × All (λ slice. ¬ HasPlace slice place) (slices_of file)
BreaksStrictFile file other place = ⊥

-- segment_command_64: the place is one of the filesize places from fileoff on
abbrev pub IsByteOfSegment : List ℕ → ℕ → ℕ → Type 0
IsByteOfSegment image segment place = Covers (fileoff image segment) (filesize image segment) place

-- the segment is mapped, and has the header and all commands
abbrev pub HoldsHeaders : List ℕ → ℕ → Type 0
HoldsHeaders image segment =
    (fileoff image segment ≡ 0) × (commands_end image ≤ filesize image segment)
    × (0 < vmsize image segment)

-- a place is in the file part of the segment and in the file part of an earlier one
abbrev pub SharesFilePart : List ℕ → ℕ → Type 0
SharesFilePart image segment =
    Any (λ earlier. (earlier < segment)
    × ((place : ℕ) × IsByteOfSegment image earlier place × IsByteOfSegment image segment place))
    (all_segments image)

-- the element with index j is the one given, and shares a place with an earlier one
abbrev pub SharesEarlierElement : List Element → ℕ → Element → Type 0
SharesEarlierElement elements j later =
    (slice_get elements j ≡ Some later)
    × ((i : ℕ) × (earlier : Element) × (i < j) × (slice_get elements i ≡ Some earlier)
    × Shares earlier.span later.span)

-- an element that is described at the place shares a byte with an earlier one
abbrev pub SharesBytes : List ℕ → ℕ → Type 0
SharesBytes image place =
    (j : ℕ) × (later : Element) × SharesEarlierElement (elements_of image) j later
    × (place ≡ later.described)

-- the element has bytes, and ends past the image
abbrev pub EndsPast : List ℕ → Element → Type 0
EndsPast image element = (0 < element.span.len) × (length image < end_of element.span)

-- such an element is described at the place
abbrev pub SomeElementEndsPast : List ℕ → ℕ → Type 0
SomeElementEndsPast image place =
    Any (λ element. EndsPast image element × (element.described ≡ place)) (elements_of image)

-- encryption_info_command_64: cryptoff and cryptsize
abbrev pub cryptoff : List ℕ → ℕ → ℕ
cryptoff image command = table_place image command encrypted_table

abbrev pub cryptsize : List ℕ → ℕ → ℕ
cryptsize image command = item_count image command encrypted_table

-- the segment has the bytes from start up to end
abbrev pub HasBytes : List ℕ → ℕ → ℕ → ℕ → Type 0
HasBytes image start end segment =
    (fileoff image segment ≤ start) × (end ≤ fileoff image segment + filesize image segment)

-- what is encrypted begins in the headers, or is not bytes of one segment
abbrev pub HasMisplacedRange : List ℕ → ℕ → Type 0
HasMisplacedRange image command =
    (0 < cryptsize image command)
    × ((cryptoff image command < commands_end image)
    ⊎ ¬ Any (HasBytes image (cryptoff image command)
    (cryptoff image command + cryptsize image command)) (all_segments image))

-- the place is in the name of a command, up to and including the zero byte that ends it
abbrev pub IsInName : List ℕ → ℕ → Structure → ℕ → Type 0
IsInName image command structure place =
    (has_name structure ≡ true) × (name_start image command ≤ place)
    × ¬ HasZero image (name_start image command) place

-- the place is in a listed command, and in none of its structure, its records and its name
abbrev pub IsSlack : List ℕ → ℕ → ℕ → Type 0
IsSlack image place command =
    Covers command (command_size image command) place
    × HasStructure image command (λ structure.
    (command + least_size image command structure ≤ place)
    × ¬ IsInName image command structure place)

-- a byte of a NOP of the image's processor, in a segment whose initprot allows execution
abbrev pub IsNop : List ℕ → ℕ → ℕ → Type 0
IsNop image place segment =
    (is_nop (cpu_type image) image place ≡ true)
    × (bit_and (initprot image segment) vm_prot.VM_PROT_EXECUTE ≢ 0)

-- the image breaks the rule at the place. Its commands are a chain, since it breaks no other rule
abbrev pub BreaksStrictImage : List ℕ → Rule → ℕ → Type 0
BreaksStrictImage image rule.CommandsEnd place =
    (place ≡ 20) × ¬ IsChain image (commands_of image) (commands_end image)
BreaksStrictImage image rule.HeaderSegment place =
    (place ≡ 20) × ¬ Any (HoldsHeaders image) (all_segments image)
BreaksStrictImage image rule.SegmentFileOverlap place =
    Contains (all_segments image) place × SharesFilePart image place
BreaksStrictImage image rule.ElementOverlap place = SharesBytes image place ⊎ SomeElementEndsPast image place
BreaksStrictImage image rule.StrayByte place =
    IsNonZero image place × All (λ segment. ¬ IsByteOfSegment image segment place) (all_segments image)
BreaksStrictImage image rule.EncryptedRange place =
    Contains (with_cmd image loader.LC_ENCRYPTION_INFO_64 (commands_of image)) place
    × HasMisplacedRange image place
BreaksStrictImage image rule.CommandSlack place =
    IsNonZero image place × Any (IsSlack image place) (commands_of image)
BreaksStrictImage image rule.UnclaimedByte place =
    IsNonZero image place
    × Any (λ segment. IsByteOfSegment image segment place × ¬ IsNop image place segment)
    (all_segments image)
    × All (λ element. ¬ Holds element.span place) (elements_of image)
BreaksStrictImage image other place = ⊥
