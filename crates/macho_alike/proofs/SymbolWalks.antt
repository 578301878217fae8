-- The search for a symbol that two readers see in two ways.
use Rattle.std.proofs.Common.{◌≡◌, ◌∙◌, ℕ, List, Option, None, Some, refl, sym, subst, lit<}
use Rattle.std.specs.Option.{option_map}
use Rattle.std.proofs.lemmas.Option.{same_Some}
use Rattle.macho_fields.specs.Image.{commands_of}
use Rattle.macho_fields.specs.Layers.{NothingBreaks}
use Rattle.macho_fields.specs.LoadCommands.{symbol_table}
use Rattle.macho_fields.specs.Rules.{BreaksImage}
use Rattle.macho_fields.specs.Symbol.{symoff, nsyms, AtSymbol}
use Rattle.macho_fields.specs.declared.load_command.Structure.TheVariants.{SymtabCommand}
use Rattle.macho_fields.proofs.LoadCommands.{symbols_listed}
use Rattle.macho_fields.specs.declared.header.loader.TheConstants as loader
use Rattle.macho_fields.specs.declared.rule.Rule.TheVariants as rule
use Rattle.macho_fields.proofs.FirstPlaces.{AreBreaks}
use Rattle.macho_image.specs.Command.{first_with_cmd}
use Rattle.macho_image.specs.Symbol.{symbol_at, symtab_at}
use Rattle.macho_image.specs.declared.symbol.Symbol.{Symbol}
use Rattle.macho_alike.specs.declared.symbols.Readers.{Readers}
use Rattle.macho_rules.proofs.OneCommand.{no_first, none_with_cmd}
use Rattle.macho_rules.proofs.Searches.{Searching}
use Rattle.macho_rules.proofs.SymbolItems.{AreSymbols}
use Rattle.macho_rules.proofs.TableItems.{items_break, table_inside}
use Rattle.macho_alike.specs.Readers.{AreReaders}
use Rattle.macho_alike.specs.Symbols.{IsSeenTwice, BreaksSymbolKind}

module _ (image : List ℕ) (all : List Symbol) (are : AreSymbols image all) (keeps : NothingBreaks (BreaksImage image None)) where
  -- a rule of symbols is broken at those with P
  pub symbols_break : (P : ℕ → Symbol → Type 0) (symtab : ℕ) → first_with_cmd image loader.LC_SYMTAB (commands_of image) ≡ Some symtab
      → AreBreaks (AtSymbol image (commands_of image) (λ symtab symbol. P symtab (symbol_at image symbol))) (λ s. s.place) (P symtab) all
  symbols_break P symtab is =
      items_break image loader.LC_SYMTAB 16 (symoff image) (nsyms image) (symbol_at image) (λ s. s.place) (λ p. refl) rule.SymbolName (lit< tt) (λ other place early. keeps other place) refl
      (λ c has. table_inside image loader.LC_SYMTAB SymtabCommand c symbol_table rule.SymbolName (lit< tt) (λ other place early. keeps other place) refl has symbols_listed)
      (λ c p. P c (symbol_at image p)) (P symtab)
      (λ c p first. let same = same_Some symtab c (sym is ∙ first) in
      (λ here. subst (λ t. P t (symbol_at image p)) same here, λ here. subst (λ t. P t (symbol_at image p)) (sym same) here)) all are

  -- the rule is broken at the symbols that are seen in two ways
  pub kinds_break : (symtab : ℕ) → first_with_cmd image loader.LC_SYMTAB (commands_of image) ≡ Some symtab
      → AreBreaks (BreaksSymbolKind image) (λ s. s.place) (IsSeenTwice image symtab) all
  kinds_break = symbols_break (IsSeenTwice image)

-- These symbols are left, and the others are seen in one way.
pub record AreLeft (image : List ℕ) (readers : Readers) (all left : List Symbol) : Type 0 where
  pub symtab : ℕ
  pub first : first_with_cmd image loader.LC_SYMTAB (commands_of image) ≡ Some symtab
  pub readers_are : AreReaders image symtab readers
  pub search : Searching (λ s. s.place) (IsSeenTwice image symtab) all left

-- an image without a symbol table has no symbols
pub nothing_at : (image : List ℕ) → None ≡ option_map (symtab_at image) (first_with_cmd image loader.LC_SYMTAB (commands_of image)) → (P : ℕ → ℕ → Type 0) (place : ℕ) → ¬ AtSymbol image (commands_of image) P place
nothing_at image none P place (i, c, inside, at_i, _) = none_with_cmd image loader.LC_SYMTAB (no_first (symtab_at image) (first_with_cmd image loader.LC_SYMTAB (commands_of image)) none) c (i, inside, at_i)

pub no_kinds : (image : List ℕ) → None ≡ option_map (symtab_at image) (first_with_cmd image loader.LC_SYMTAB (commands_of image)) → (place : ℕ) → ¬ BreaksSymbolKind image place
no_kinds image none = nothing_at image none (λ symtab symbol. IsSeenTwice image symtab (symbol_at image symbol))
