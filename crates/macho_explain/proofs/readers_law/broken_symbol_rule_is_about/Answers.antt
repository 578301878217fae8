use Rattle.std.proofs.Common.{◌≡◌, ℕ, inl, inr, subst, sym}
use Rattle.macho_image.specs.Symbol.{symbol_at}
use Rattle.macho_alike.specs.Definitions.{DisagreesEarlier}
use Rattle.macho_alike.specs.Imports.{IsFromOther}
use Rattle.macho_alike.specs.Indirects.{entry_with, IsOfAnotherName}
use Rattle.macho_alike.specs.SymbolTotal.{PassesImage}
use Rattle.macho_alike.specs.TrieSymbols.{IsUnlikeTrie}
use Rattle.macho_fields.proofs.Options.{some_of}
use Rattle.macho_explain.specs.Compared.{HasIndirect}
use Rattle.macho_explain.proofs.LinkedSymbols.{indirect, symbol}
use Rattle.macho_explain.proofs.readers_law.broken_symbol_rule_is_about.Goals as goal

pub returns-clause-symbol_total : goal.returns-clause-symbol_total
returns-clause-symbol_total c = λ keeps place broken.
    let image = c.args.image.now in symbol image keeps (PassesImage image) place broken

pub returns-clause-export_symbol : goal.returns-clause-export_symbol
returns-clause-export_symbol c = λ keeps place broken.
    let image = c.args.image.now in
    elim broken [
      | inl earlier ↦ symbol image keeps (DisagreesEarlier image) place earlier
      | inr unlike ↦ symbol image keeps (λ (symtab s : ℕ). IsUnlikeTrie image symtab (symbol_at image s)) place unlike
    ]

pub returns-clause-indirect_name : goal.returns-clause-indirect_name
returns-clause-indirect_name c = λ keeps place (bound, index, is, has, entry).
    let image = c.args.image.now in
    let (found, listed, (at, other)) = some_of (λ e. (place ≡ e.place) × IsOfAnotherName image e bound.name) (entry_with image index) entry in
    indirect image keeps index found listed place at

pub returns-clause-import_library : goal.returns-clause-import_library
returns-clause-import_library c = λ keeps place broken.
    let image = c.args.image.now in symbol image keeps (λ (symtab s : ℕ). IsFromOther image symtab (symbol_at image s)) place broken.1
