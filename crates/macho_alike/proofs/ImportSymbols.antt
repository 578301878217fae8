-- The search for a symbol that is from another library than fixups say, and what holds without one.
use Rattle.std.proofs.Common.{◌≡◌, ◌∙◌, ℕ, ◌+◌, ◌*◌, ◌<◌, List, Option, None, Some, refl, sym, inl, inr}
use Rattle.std.specs.Option.{option_map}
use Rattle.macho_fields.proofs.Lists.{any_of}
use Rattle.macho_fields.specs.FirstPlace.{IsLeastPlace}
use Rattle.macho_fields.specs.Image.{commands_of, with_cmd}
use Rattle.macho_fields.specs.Symbol.{symoff, nsyms, AtSymbol}
use Rattle.macho_fields.specs.declared.header.loader.TheConstants as loader
use Rattle.macho_image.specs.Command.{first_with_cmd}
use Rattle.macho_image.specs.Symbol.{symbol_at, symtab_at}
use Rattle.macho_image.specs.declared.symbol.Symbol.{Symbol}
use Rattle.macho_rules.proofs.Searches.{Searching}
use Rattle.macho_symbols.specs.Header.{IsTwoLevel}
use Rattle.macho_alike.specs.ImportModels.{HasImport, IsLibraryOf, HasOneLibrary}
use Rattle.macho_alike.specs.Imports.{library_of, IsFromOther, BreaksImportLibrary}
use Rattle.macho_alike.specs.SymbolModels.{symbol_place}
use Rattle.macho_alike.specs.declared.binds.Library.{Library}
use Rattle.macho_alike.proofs.NotedLibraries.{libraries_or_not}
use Rattle.macho_alike.proofs.SymbolWalks.{nothing_at}

abbrev pub AtOther : List ℕ → ℕ → Type 0
AtOther image place = AtSymbol image (commands_of image) (λ symtab symbol. IsFromOther image symtab (symbol_at image symbol)) place

-- in an image with MH_TWOLEVEL
pub breaks_where : (image : List ℕ) (P : ℕ → Type 0) → IsTwoLevel image → (found : Option ℕ) → IsLeastPlace P found → IsLeastPlace (λ place. IsTwoLevel image × P place) found
breaks_where image P two None none = λ place broken. none place broken.1
breaks_where image P two (Some first) (here, least) = ((two, here), λ place broken. least place broken.1)

-- These symbols are left, and the others are from no other library.
pub record AreLeft (image : List ℕ) (all left : List Symbol) (symtab : ℕ) : Type 0 where
  pub first : first_with_cmd image loader.LC_SYMTAB (commands_of image) ≡ Some symtab
  pub search : Searching (λ s. s.place) (IsFromOther image symtab) all left

pub no_others : (image : List ℕ) → None ≡ option_map (symtab_at image) (first_with_cmd image loader.LC_SYMTAB (commands_of image)) → (place : ℕ) → ¬ BreaksImportLibrary image place
no_others image none place broken = nothing_at image none (λ symtab symbol. IsFromOther image symtab (symbol_at image symbol)) place broken.1

-- The law

module _ (image : List ℕ) (unbroken : (place : ℕ) → ¬ BreaksImportLibrary image place) (two : IsTwoLevel image) (symtab k : ℕ) (imported : HasImport image symtab k) where
  abbrev symbol : Symbol
  symbol = symbol_at image (symbol_place image symtab k)

  own : (from : Library) → IsLibraryOf image symtab k from → from ≡ library_of symbol
  own from (inl by_desc) = by_desc
  own from (inr looks) = elim (libraries_or_not from (library_of symbol)) [
    | inl same ↦ same
    | inr apart ↦
        absurd (unbroken (symbol_place image symtab k) (
          two,
          any_of (λ t. (i : ℕ) × (i < nsyms image t) × (symbol_place image symtab k ≡ symoff image t + 16 * i) × IsFromOther image t (symbol_at image (symbol_place image symtab k)))
              (with_cmd image loader.LC_SYMTAB (commands_of image)) symtab imported.0.0 (k, imported.0.1, refl, (imported.1, (from, looks, apart))),
        ))
  ]

  one_library : (a b : Library) → IsLibraryOf image symtab k a → IsLibraryOf image symtab k b → a ≡ b
  one_library a b is_a is_b = own a is_a ∙ sym (own b is_b)

pub has_one_library : (image : List ℕ) → ((place : ℕ) → ¬ BreaksImportLibrary image place) → HasOneLibrary image
has_one_library image unbroken two symtab k imported = one_library image unbroken two symtab k imported
