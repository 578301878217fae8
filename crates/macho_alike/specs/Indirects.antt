-- The pointers that fixups bind and that have an entry in the indirect symbol table, and where the entry is of another
-- name than the bind. A segment and a section are named by the places of their structures.
-- (mach-o/loader.h: section_64, dysymtab_command, dyld_info_command; mach-o/fixup-chains.h)
use Rattle.std.specs.Prelude.{◌≡◌, ◌≢◌, ℕ, ◌+◌, ◌-◌, ◌*◌, ◌/◌, ◌%◌, ◌^◌, ◌<◌, ◌==◌, ◌⊎◌, List, [], ◌∷◌, length, map, slice_get, Any, Bool, true, Option, Some, IsSome, IsSomeAnd, bit_and, if◌then◌else◌}
use Rattle.std.specs.List.{list_any}
use Rattle.macho_fields.specs.Field.{string_from, HasZero}
use Rattle.macho_fields.specs.Image.{commands_of}
use Rattle.macho_fields.specs.Segment.{all_segments, vmaddr, section_address, section_size, section_flags}
use Rattle.macho_fields.specs.Symbol.{stroff, strsize, IsSymbolIndex}
use Rattle.macho_fields.specs.declared.header.loader.TheConstants as loader
use Rattle.macho_fields.specs.declared.header.nlist.TheConstants.{N_TYPE, N_INDR}
use Rattle.macho_image.specs.Command.{first_with_cmd}
use Rattle.macho_image.specs.Segment.{reserved1, sections_of}
use Rattle.macho_image.specs.Symbol.{indirects_of, indirect_at, symbol_at, symbols_of}
use Rattle.macho_image.specs.declared.indirect.Indirect.{Indirect}
use Rattle.macho_image.specs.declared.symbol.Symbol.{Symbol}
use Rattle.macho_tables.specs.declared.limits.TheConstants.{POINTER_SIZE}
use Rattle.macho_chains.specs.ChainImports.{import_name_start, ImportsEndPast}
use Rattle.macho_chains.specs.ChainPointers.{pointer_at, ComesTo, OfSomePage}
use Rattle.macho_chains.specs.Chains.{InPointers}
use Rattle.macho_chains.specs.declared.chain_header.ChainHeader.{ChainHeader}
use Rattle.macho_chains.specs.declared.chain_pointers.ChainPointer.{ChainPointer}
use Rattle.macho_chains.specs.declared.chain_starts.SegmentStarts.{SegmentStarts}
use Rattle.macho_alike.specs.Binds.{IsBind}
use Rattle.macho_alike.specs.Symbols.{IsExternal}
use Rattle.macho_alike.specs.declared.binds.Bind.{Bind}
use Rattle.macho_alike.specs.declared.bounds.Bound.{Bound}

-- Which pointers are bound, and where the name of the bind begins

-- an opcode binds it
abbrev pub IsOpcodeBound : List ℕ → Bound → Type 0
IsOpcodeBound image bound =
    (bind : Bind) × IsBind image bind × (slice_get (all_segments image) bind.segment ≡ Some bound.segment)
    × (bound.offset ≡ bind.offset) × (bound.name ≡ bind.name.start)

-- the pointer of a chain binds an import, whose name begins there, in the table that begins at a place
abbrev pub IsImportName : ℕ → List ℕ → ChainHeader → ChainPointer → ℕ → Type 0
IsImportName table chains header pointer name =
    IsSomeAnd pointer.import (λ import.
    (import < header.imports_count) × (¬ ImportsEndPast chains header)
    × (import_name_start chains header import < length chains)
    × (name ≡ table + import_name_start chains header import))

-- the chain of a page comes to it
abbrev pub IsPageBound : List ℕ → ℕ → List ℕ → ChainHeader → Bound → ℕ → SegmentStarts → ℕ → Type 0
IsPageBound image table chains header bound segment starts page =
    (bound.segment ≡ segment) × ComesTo image chains segment starts page bound.offset
    × IsImportName table chains header (pointer_at image segment starts.format bound.offset) bound.name

-- some chain does
abbrev pub IsChainBound : List ℕ → Bound → Type 0
IsChainBound image bound =
    InPointers image
    (λ image table chains header offset. OfSomePage image chains header (IsPageBound image table chains header bound))
    bound.offset

-- an image has opcodes or chains
abbrev pub IsBound : List ℕ → Bound → Type 0
IsBound image bound = IsOpcodeBound image bound ⊎ IsChainBound image bound

-- Which entry is the one of a pointer

-- the types of sections of pointers to symbols (SECTION_TYPE)
abbrev pub is_of_pointers : ℕ → Bool
is_of_pointers kind =
    list_any (λ wanted. kind == wanted)
    (loader.S_NON_LAZY_SYMBOL_POINTERS ∷ loader.S_LAZY_SYMBOL_POINTERS ∷ loader.S_LAZY_DYLIB_SYMBOL_POINTERS
    ∷ loader.S_THREAD_LOCAL_VARIABLE_POINTERS ∷ [])

abbrev pub HasPointers : List ℕ → ℕ → Type 0
HasPointers image section = is_of_pointers (section_flags image section % 256) ≡ true

-- The section, after its segment, has the pointer. The pointer i of a section takes the entry reserved1 + i. Entries are
-- counted by 32 bits.
abbrev pub IsPointerOf : List ℕ → ℕ × ℕ → Bound → ℕ → Type 0
IsPointerOf image section bound index =
    HasPointers image section.1 × (bound.segment ≡ section.0) × (index < 2 ^ 32)
    × ((i : ℕ) × (i < section_size image section.1 / POINTER_SIZE)
    × (vmaddr image section.0 + bound.offset ≡ section_address image section.1 + POINTER_SIZE * i)
    × (index ≡ reserved1 image section.1 + i))

abbrev pub HasEntry : List ℕ → Bound → ℕ → Type 0
HasEntry image bound index =
    Any (λ section. IsPointerOf image section bound index) (sections_of image (commands_of image))

-- the entry with an index
abbrev pub entry_with : List ℕ → ℕ → Option Indirect
entry_with image index = slice_get (map (indirect_at image) (indirects_of image (commands_of image))) index

-- Which name an entry is of

-- the symbols of the image
abbrev pub symbols_in : List ℕ → List Symbol
symbols_in image = map (symbol_at image) (symbols_of image (commands_of image))

-- The name that a symbol stands for begins there in the strings: its own name, or for an alias (N_INDR) the name of the
-- other symbol. An alias is followed once, by name. Whether the other symbol is an alias too is not asked: it stands for
-- a third name, and this symbol does not.
abbrev pub name_offset : Symbol → ℕ
name_offset symbol = if bit_and symbol.kind N_TYPE == N_INDR then symbol.value else symbol.strx

-- it is external and has a name, and it stands for a name in strings of a size
abbrev pub StandsForName : ℕ → Symbol → Type 0
StandsForName size symbol =
    IsExternal symbol.kind × (symbol.strx ≢ 0) × (name_offset symbol ≢ 0) × (name_offset symbol < size)

-- The name for which an alias stands begins where another string ends. So two of them share bytes only if they are one,
-- and all together have at most the bytes of the strings. (Own names are counted by symbol-total.)
abbrev pub BeginsName : List ℕ → Symbol → ℕ → Type 0
BeginsName image symbol start = (bit_and symbol.kind N_TYPE ≢ N_INDR) ⊎ HasZero image (start - 1) start

-- it stands for the name that begins at a place
abbrev pub HasNameAt : List ℕ → ℕ → Symbol → ℕ → Type 0
HasNameAt image symtab symbol start =
    StandsForName (strsize image symtab) symbol × (start ≡ stroff image symtab + name_offset symbol)
    × BeginsName image symbol start

-- the symbol with an index does
abbrev pub IsNameStart : List ℕ → ℕ → ℕ → Type 0
IsNameStart image index start =
    IsSomeAnd (first_with_cmd image loader.LC_SYMTAB (commands_of image)) (λ symtab.
    IsSomeAnd (slice_get (symbols_in image) index) (λ symbol. HasNameAt image symtab symbol start))

-- and this is its name
abbrev pub IsNameOf : List ℕ → ℕ → List ℕ → Type 0
IsNameOf image index name = (start : ℕ) × IsNameStart image index start × (string_from start image ≡ name)

-- the entry is the index of a symbol, whose name is not the one that begins at a place
abbrev pub IsOfAnotherName : List ℕ → Indirect → ℕ → Type 0
IsOfAnotherName image entry name = IsSymbolIndex entry.value × ¬ IsNameOf image entry.value (string_from name image)

-- the rule indirect-name, at the place of the entry of a bound pointer
abbrev pub BreaksIndirectName : List ℕ → ℕ → Type 0
BreaksIndirectName image place =
    (bound : Bound) × (index : ℕ) × IsBound image bound × HasEntry image bound index
    × IsSomeAnd (entry_with image index) (λ entry. (place ≡ entry.place) × IsOfAnotherName image entry bound.name)

-- the image has indirect entries
abbrev pub HasDysymtab : List ℕ → Type 0
HasDysymtab image = IsSome (first_with_cmd image loader.LC_DYSYMTAB (commands_of image))
