-- The names of the external symbols of an image, and where they have more bytes than the image. (mach-o/nlist.h: nlist_64;
-- mach-o/loader.h: symtab_command)
use Rattle.std.specs.Prelude.{◌≡◌, ℕ, zero, suc, ◌+◌, ◌<◌, ◌==◌, ◌&&◌, not, Bool, List, length, bit_and, if◌then◌else◌}
use Rattle.macho_fields.specs.Image.{commands_of}
use Rattle.macho_fields.specs.Symbol.{AtSymbol}
use Rattle.macho_fields.specs.declared.header.nlist.TheConstants.{N_EXT, N_STAB}
use Rattle.macho_image.specs.Symbol.{symbol_at}
use Rattle.macho_image.specs.declared.symbol.Symbol.{Symbol}
use Rattle.macho_alike.specs.Definitions.{name_of}
use Rattle.macho_alike.specs.Names.{HasExternalName}
use Rattle.macho_alike.specs.SymbolModels.{symbol_place}

-- HasExternalName, as a test
abbrev pub has_external_name : Symbol → Bool
has_external_name symbol =
    (bit_and symbol.kind N_STAB == 0) && (not (bit_and symbol.kind N_EXT == 0) && not (symbol.strx == 0))

-- how many bytes the name of an external symbol has, with the zero byte that ends it. Others count nothing
abbrev pub name_size : List ℕ → ℕ → Symbol → ℕ
name_size image symtab symbol =
    if has_external_name symbol then length (name_of image symtab symbol) + 1 else 0

-- the sum over the first symbols of the table, so many
abbrev pub names_size : List ℕ → ℕ → ℕ → ℕ
names_size image symtab zero = 0
names_size image symtab (suc k) =
    names_size image symtab k + name_size image symtab (symbol_at image (symbol_place image symtab k))

-- the symbol at the place is external and has a name, and with it those up to it have more bytes than the image
abbrev pub PassesImage : List ℕ → ℕ → ℕ → Type 0
PassesImage image symtab place =
    HasExternalName (symbol_at image place)
    × ((k : ℕ) × (place ≡ symbol_place image symtab k) × (length image < names_size image symtab (suc k)))

-- symbol-total, at the place of a symbol
abbrev pub BreaksSymbolTotal : List ℕ → ℕ → Type 0
BreaksSymbolTotal image place = AtSymbol image (commands_of image) (PassesImage image) place
