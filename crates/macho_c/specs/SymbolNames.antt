-- The symbol that is found by its name says this of the name. (mach-o/nlist.h: nlist_64)
use Rattle.std.specs.Prelude.{◌≡◌, ℕ, List, Some, bit_and}
use Rattle.macho_fields.specs.Image.{commands_of}
use Rattle.macho_fields.specs.declared.header.loader.TheConstants.{LC_SYMTAB}
use Rattle.macho_fields.specs.declared.header.nlist.TheConstants.{N_TYPE, N_WEAK_DEF}
use Rattle.macho_image.specs.Command.{first_with_cmd}
use Rattle.macho_image.specs.Symbol.{symbol_at}
use Rattle.macho_alike.specs.DefinitionModels.{IsDefinition}
use Rattle.macho_alike.specs.Definitions.{meaning_of}
use Rattle.macho_alike.specs.SymbolModels.{symbol_place}
use Rattle.macho_alike.specs.Symbols.{IsDefined}
use Rattle.macho_alike.specs.declared.definitions.Meaning.{Meaning}
use Rattle.macho_c.specs.Status.{KESVUOT_OK}
use Rattle.macho_rows.specs.declared.symbols.KesvuotSymbol.{KesvuotSymbol}

-- what the row of a symbol says of its name
abbrev pub meaning_in : KesvuotSymbol → Meaning
meaning_in row = record {
  value = row.value;
  kind = bit_and row.kind N_TYPE;
  weak = bit_and row.desc N_WEAK_DEF;
}

-- If a symbol is found that is external and defined, each definition of the name says the same, whichever of them a
-- reader takes.
abbrev pub FindsMeaning : List ℕ → List ℕ → ℕ → KesvuotSymbol → Type 0
FindsMeaning image name status row =
    status ≡ KESVUOT_OK → IsDefined row.kind → (symtab k : ℕ)
    → first_with_cmd image LC_SYMTAB (commands_of image) ≡ Some symtab → IsDefinition image symtab name k
    → meaning_in row ≡ meaning_of (symbol_at image (symbol_place image symtab k))
