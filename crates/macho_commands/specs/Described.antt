-- What a held command describes of its own bytes, past its structure. All offsets are counted from the start of the
-- command, whose bytes these are. (mach-o/loader.h: lc_str, prebound_dylib_command, linker_option_command)
use Rattle.std.specs.Prelude.{◌≢◌, ℕ, ◌+◌, ◌-◌, ◌*◌, ◌≤◌, ◌<◌, ◌==◌, ◌⊎◌, ◌↔◌, ⊤, List, length, count_by, slice_index}
use Rattle.macho_fields.specs.Field.{part, HasZero}
use Rattle.macho_fields.specs.Image.{word}
use Rattle.macho_fields.specs.NonZero.{IsNonZero}
use Rattle.macho_spans.specs.Span.{end_of, Holds}
use Rattle.macho_spans.specs.declared.span.Span.{Span}
use Rattle.macho_commands.specs.declared.content.Content.{Content}
use Rattle.macho_commands.specs.declared.content.Holding.{Holding}
use Rattle.macho_commands.specs.declared.content.Holding.TheVariants as holding
use Rattle.macho_commands.specs.declared.described.Parts.{Parts}

-- A name: lc_str at 8 is its offset

abbrev pub name_offset : List ℕ → ℕ
name_offset bytes = word bytes 8

-- it begins inside the structure, or has no zero byte before the end of the command
abbrev pub IsBadName : ℕ → List ℕ → Type 0
IsBadName size bytes =
    (name_offset bytes < size) ⊎ ¬ HasZero bytes (name_offset bytes) (length bytes)

-- an offset of the name, or of the zero byte that ends it
abbrev pub IsInName : List ℕ → ℕ → Type 0
IsInName bytes offset = (name_offset bytes ≤ offset) × ¬ HasZero bytes (name_offset bytes) offset

-- prebound_dylib_command: nmodules at 12, and lc_str linked_modules at 16, the offset of a bit for each module

abbrev pub module_count : List ℕ → ℕ
module_count bytes = word bytes 12

abbrev pub modules_offset : List ℕ → ℕ
modules_offset bytes = word bytes 16

-- there are bits, and they begin inside the structure, or the last of them is past the command
abbrev pub HasBadModules : ℕ → List ℕ → Type 0
HasBadModules size bytes =
    (0 < module_count bytes) × ((modules_offset bytes < size)
    ⊎ (8 * length bytes < 8 * modules_offset bytes + module_count bytes))

-- an offset of a byte with such bits
abbrev pub IsInModules : List ℕ → ℕ → Type 0
IsInModules bytes offset =
    (modules_offset bytes ≤ offset)
    × (8 * offset < 8 * modules_offset bytes + module_count bytes)

-- ident_command: strings follow it up to the end of the command, where there is more than the structure
abbrev pub HasBadStrings : ℕ → List ℕ → Type 0
HasBadStrings size bytes =
    (size < length bytes) × (slice_index bytes (length bytes - 1) ≢ 0)

-- linker_option_command: count at 8, of strings that follow the structure one after the other

abbrev pub string_count : List ℕ → ℕ
string_count bytes = word bytes 8

-- how many of the bytes from start on and before end are zero
abbrev pub zero_count : List ℕ → ℕ → ℕ → ℕ
zero_count bytes start end = count_by (λ byte. byte == 0) (part start (end - start) bytes)

-- there are fewer zero bytes than strings
abbrev pub HasFewStrings : ℕ → List ℕ → Type 0
HasFewStrings size bytes = zero_count bytes size (length bytes) < string_count bytes

-- an offset of one of the strings, or of the zero byte that ends it: so many were not ended before
abbrev pub IsInStrings : ℕ → List ℕ → ℕ → Type 0
IsInStrings size bytes offset = zero_count bytes size offset < string_count bytes

-- What a command describes by what it holds, past a structure of this size

-- a part of it is bad
abbrev pub IsBadPart : ℕ → List ℕ → Holding → Type 0
IsBadPart size bytes holding.Name = IsBadName size bytes
IsBadPart size bytes holding.NameAndModules = IsBadName size bytes ⊎ HasBadModules size bytes
IsBadPart size bytes holding.Strings = HasBadStrings size bytes
IsBadPart size bytes holding.CountedStrings = HasFewStrings size bytes
IsBadPart size bytes other = ⊥

abbrev pub HasBadPart : List ℕ → Content → Type 0
HasBadPart bytes content = IsBadPart content.size bytes content.holding

-- the offset, which is past the structure, is of one of its parts
abbrev pub IsWithin : ℕ → List ℕ → Holding → ℕ → Type 0
IsWithin size bytes holding.Name offset = IsInName bytes offset
IsWithin size bytes holding.NameAndModules offset = IsInName bytes offset ⊎ IsInModules bytes offset
IsWithin size bytes holding.Strings offset = ⊤
IsWithin size bytes holding.CountedStrings offset = IsInStrings size bytes offset
IsWithin size bytes other offset = ⊥

abbrev pub IsInPart : List ℕ → Content → ℕ → Type 0
IsInPart bytes content offset = IsWithin content.size bytes content.holding offset

-- a byte that is not zero is past the structure, and in no part
abbrev pub HasStrayByte : List ℕ → Content → Type 0
HasStrayByte bytes content =
    (offset : ℕ) × (content.size ≤ offset) × IsNonZero bytes offset
    × ¬ IsInPart bytes content offset

-- What the code finds

-- the span lies in the command past a structure of this size, and has the offsets with P
pub record IsDescribedPart (size : ℕ) (bytes : List ℕ) (P : ℕ → Type 0) (span : Span) : Type 0 where
  pub start : size ≤ span.start
  pub end : end_of span ≤ length bytes
  pub holds : (offset : ℕ) → size ≤ offset → offset < length bytes → Holds span offset ↔ P offset

-- an offset of one of two parts
abbrev pub IsInParts : Parts → ℕ → Type 0
IsInParts parts offset = Holds parts.first offset ⊎ Holds parts.second offset

-- both lie in the command past a structure of this size
pub record LieInside (size : ℕ) (bytes : List ℕ) (parts : Parts) : Type 0 where
  pub first_start : size ≤ parts.first.start
  pub first_end : end_of parts.first ≤ length bytes
  pub second_start : size ≤ parts.second.start
  pub second_end : end_of parts.second ≤ length bytes

-- they belong to a command with this content
pub record AreParts (bytes : List ℕ) (content : Content) (parts : Parts) : Type 0 where
  pub inside : LieInside content.size bytes parts
  pub good : ¬ HasBadPart bytes content
  pub holds : (offset : ℕ) → content.size ≤ offset → offset < length bytes
      → IsInParts parts offset ↔ IsInPart bytes content offset

-- a byte that is not zero is past the structure, and in neither
abbrev pub HasOther : ℕ → List ℕ → Parts → Type 0
HasOther size bytes parts =
    (offset : ℕ) × (size ≤ offset) × IsNonZero bytes offset × ¬ IsInParts parts offset

-- the end of the strings: those offsets are before it that are of one of them
pub record IsEndOfStrings (size : ℕ) (bytes : List ℕ) (end : ℕ) : Type 0 where
  pub start : size ≤ end
  pub inside : end ≤ length bytes
  pub strings : (offset : ℕ) → size ≤ offset → offset < length bytes
      → (offset < end) ↔ IsInStrings size bytes offset
