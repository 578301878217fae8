-- What readers answer about a pointer of a section, and that all answers are the same. (mach-o/loader.h: section_64,
-- dysymtab_command)
use Rattle.std.specs.Prelude.{◌≡◌, ◌≢◌, ℕ, ◌+◌, ◌⊎◌, List, slice_get, IsSomeAnd, bit_and}
use Rattle.macho_fields.specs.Field.{string_from}
use Rattle.macho_fields.specs.Image.{commands_of}
use Rattle.macho_fields.specs.Symbol.{stroff, IsSymbolIndex}
use Rattle.macho_fields.specs.declared.header.loader.TheConstants.{LC_SYMTAB}
use Rattle.macho_fields.specs.declared.header.nlist.TheConstants.{N_TYPE, N_INDR}
use Rattle.macho_image.specs.Command.{first_with_cmd}
use Rattle.macho_image.specs.declared.symbol.Symbol.{Symbol}
use Rattle.macho_alike.specs.Definitions.{name_of}
use Rattle.macho_alike.specs.Indirects.{IsBound, HasEntry, entry_with, symbols_in}
use Rattle.macho_alike.specs.declared.bounds.Bound.{Bound}

-- Which name is a pointer bound to? A loader follows a bind of it.
abbrev pub IsNameByBind : List ℕ → ℕ → ℕ → List ℕ → Type 0
IsNameByBind image segment offset name =
    (bound : Bound) × IsBound image bound × (bound.segment ≡ segment) × (bound.offset ≡ offset)
    × (name ≡ string_from bound.name image)

-- A disassembler follows its indirect entry, if that is neither local nor absolute, and shows the name that the symbol
-- stands for: its own name, or for an alias (N_INDR) the name of the other symbol.
abbrev pub IsShownName : List ℕ → ℕ → Symbol → List ℕ → Type 0
IsShownName image symtab symbol name =
    ((bit_and symbol.kind N_TYPE ≢ N_INDR) × (name ≡ name_of image symtab symbol))
    ⊎ ((bit_and symbol.kind N_TYPE ≡ N_INDR) × (name ≡ string_from (stroff image symtab + symbol.value) image))

abbrev pub IsNameOfEntry : List ℕ → ℕ → List ℕ → Type 0
IsNameOfEntry image index name =
    IsSomeAnd (first_with_cmd image LC_SYMTAB (commands_of image)) (λ symtab.
    IsSomeAnd (slice_get (symbols_in image) index) (λ symbol. IsShownName image symtab symbol name))

abbrev pub IsNameByEntry : List ℕ → ℕ → ℕ → List ℕ → Type 0
IsNameByEntry image segment offset name =
    (index : ℕ) × HasEntry image (record { segment = segment; offset = offset; name = 0 }) index
    × IsSomeAnd (entry_with image index) (λ entry. IsSymbolIndex entry.value × IsNameOfEntry image entry.value name)

-- Where both answer, both answer the same.
abbrev pub HasOneNameOfPointer : List ℕ → Type 0
HasOneNameOfPointer image =
    (segment offset : ℕ) (a b : List ℕ) → IsNameByBind image segment offset a → IsNameByEntry image segment offset b → a ≡ b
