-- The symbols of an image, one after the other.
use Rattle.std.proofs.Common.{◌≡◌, ◌∙◌, ◌↔◌, ℕ, List, [], ◌∷◌, ◌++◌, Option, None, Some, refl, sym, ap, subst, arith, lit<}
use Rattle.std.specs.Option.{option_map_or}
use Rattle.macho_fields.specs.FirstPlace.{IsFirstOf, IsLeastPlace, IsNoted}
use Rattle.macho_fields.specs.Image.{commands_of}
use Rattle.macho_fields.specs.Layers.{NothingBreaks}
use Rattle.macho_fields.specs.LoadCommands.{symbol_table}
use Rattle.macho_fields.specs.Rules.{BreaksImage}
use Rattle.macho_fields.specs.Symbol.{symoff, nsyms, symbol_count, AtSymbol}
use Rattle.macho_fields.specs.declared.header.loader.TheConstants as loader
use Rattle.macho_fields.specs.declared.load_command.Structure.TheVariants.{SymtabCommand}
use Rattle.macho_fields.specs.declared.rule.Rule.TheVariants as rule
use Rattle.macho_fields.proofs.FirstPlaces.{AreBreaks, first_breaks, first_of_none}
use Rattle.macho_fields.proofs.LoadCommands.{symbols_listed}
use Rattle.macho_image.specs.Command.{first_with_cmd}
use Rattle.macho_image.specs.Symbol.{symbol_at}
use Rattle.macho_image.specs.declared.symbol.Symbol.{Symbol}
use Rattle.macho_rules.proofs.OneCommand.{first_is, symbols_counted}
use Rattle.macho_rules.proofs.SymbolItems.{AreSymbols, symbols_search}
use Rattle.macho_rules.proofs.Surveys.{walked, walked_on, walked_all, rising_end_by, first_noted}
use Rattle.macho_rules.proofs.TableItems.{items_break, table_inside}
use Rattle.macho_rules.proofs.Verdicts.{unbroken_opened}
use Rattle.macho_symbols.specs.SymbolLimits.{AreLimits, NamesPast}
use Rattle.macho_symbols.specs.Symbols.{LacksLibrary, IsAstraySymbol, IsEndless, IsLeastOfImage}
use Rattle.macho_symbols.specs.declared.symbols.Limits.{Limits}
use Rattle.macho_symbols.specs.declared.symbols.SymbolSurvey.{SymbolSurvey}

-- these symbols were noted
pub record AreNoted (image : List ℕ) (all left : List Symbol) (limits : Limits) (survey : SymbolSurvey) : Type 0 where
  pub kept : AreLimits image limits
  pub seen : List Symbol
  pub reached : all ≡ seen ++ left
  pub library : IsFirstOf (λ s. s.place) (LacksLibrary image) seen survey.library
  pub value : IsFirstOf (λ s. s.place) (IsAstraySymbol image) seen survey.value
  pub indirect : IsFirstOf (λ s. s.place) (NamesPast limits.names_end) seen survey.indirect

pub none_noted : (image : List ℕ) (all : List Symbol) (limits : Limits) → AreLimits image limits → AreNoted image all all limits (record { library = None; value = None; indirect = None })
none_noted image all limits are = record {
  kept = are;
  seen = [];
  reached = refl;
  library = first_of_none (λ (s : Symbol). s.place) (LacksLibrary image);
  value = first_of_none (λ (s : Symbol). s.place) (IsAstraySymbol image);
  indirect = first_of_none (λ (s : Symbol). s.place) (NamesPast limits.names_end);
}

module _ (image : List ℕ) (all : List Symbol) (are : AreSymbols image all) where
  module _ (left rest : List Symbol) (s : Symbol) (is : left ≡ s ∷ rest) (limits after : Limits) (survey new : SymbolSurvey) (noted : AreNoted image all left limits survey) where
    pub noted_more : AreLimits image after → after.names_end ≡ limits.names_end → IsNoted (LacksLibrary image s) s.place survey.library new.library
        → IsNoted (IsAstraySymbol image s) s.place survey.value new.value → IsNoted (NamesPast limits.names_end s) s.place survey.indirect new.indirect
        → AreNoted image all rest after new
    noted_more still end library value indirect =
        let here = walked all noted.seen left s rest noted.reached is in
        let past = rising_end_by (λ (t : Symbol). t.place) all noted.seen s rest here (symbols_search image all are (LacksLibrary image)).rising in record {
          kept = still;
          seen = noted.seen ++ s ∷ [];
          reached = walked_on all noted.seen left s rest noted.reached is;
          library = first_noted (λ (t : Symbol). t.place) (LacksLibrary image) noted.seen s survey.library new.library past library noted.library;
          value = first_noted (λ (t : Symbol). t.place) (IsAstraySymbol image) noted.seen s survey.value new.value past value noted.value;
          indirect = subst (λ n. IsFirstOf (λ (t : Symbol). t.place) (NamesPast n) (noted.seen ++ s ∷ []) new.indirect) (sym end)
              (first_noted (λ (t : Symbol). t.place) (NamesPast limits.names_end) noted.seen s survey.indirect new.indirect past indirect noted.indirect);
        }

  module _ (keeps : NothingBreaks (BreaksImage image None)) where
    symbols_break : (P : ℕ → ℕ → Type 0) (Q : Symbol → Type 0) → ((c p : ℕ) → first_with_cmd image loader.LC_SYMTAB (commands_of image) ≡ Some c → Q (symbol_at image p) ↔ P c p)
        → AreBreaks (AtSymbol image (commands_of image) P) (λ s. s.place) Q all
    symbols_break P Q same =
        items_break image loader.LC_SYMTAB 16 (symoff image) (nsyms image) (symbol_at image) (λ s. s.place) (λ p. refl) rule.SymbolName (lit< tt) (λ other place early. keeps other place) refl
        (λ c has. table_inside image loader.LC_SYMTAB SymtabCommand c symbol_table rule.SymbolName (lit< tt) (λ other place early. keeps other place) refl has symbols_listed) P Q same all are

    least : (P : ℕ → ℕ → Type 0) (Q : Symbol → Type 0) → ((c p : ℕ) → first_with_cmd image loader.LC_SYMTAB (commands_of image) ≡ Some c → Q (symbol_at image p) ↔ P c p)
        → (found : Option ℕ) → IsFirstOf (λ s. s.place) Q all found → IsLeastPlace (AtSymbol image (commands_of image) P) found
    least P Q same found first = first_breaks (AtSymbol image (commands_of image) P) (λ s. s.place) Q all found (symbols_break P Q same) first

    pub all_noted : (left : List Symbol) → left ≡ [] → (limits : Limits) (survey : SymbolSurvey) → AreNoted image all left limits survey → IsLeastOfImage image survey
    all_noted left ended limits survey noted =
        let whole = walked_all all noted.seen left noted.reached ended in record {
          library = least (λ symtab p. LacksLibrary image (symbol_at image p)) (LacksLibrary image) (λ c p first. (λ x. x, λ x. x)) survey.library
              (subst (λ these. IsFirstOf (λ (t : Symbol). t.place) (LacksLibrary image) these survey.library) (sym whole) noted.library);
          value = least (λ symtab p. IsAstraySymbol image (symbol_at image p)) (IsAstraySymbol image) (λ c p first. (λ x. x, λ x. x)) survey.value
              (subst (λ these. IsFirstOf (λ (t : Symbol). t.place) (IsAstraySymbol image) these survey.value) (sym whole) noted.value);
          indirect = least (λ symtab p. IsEndless image symtab (symbol_at image p)) (NamesPast limits.names_end)
              (λ c p first. let past = noted.kept.names_end c first (symbol_at image p).value in (λ (kind, begins). (kind, past.1 begins), λ (kind, endless). (kind, past.0 endless)))
              survey.indirect
              (subst (λ these. IsFirstOf (λ (t : Symbol). t.place) (NamesPast limits.names_end) these survey.indirect) (sym whole) noted.indirect);
        }

-- an image without symbols breaks no rule of symbols
pub no_symbols : (image : List ℕ) → NothingBreaks (BreaksImage image None) → (count : ℕ) → count ≡ symbol_count image (commands_of image) → count ≡ 0 → (P : ℕ → ℕ → Type 0) (place : ℕ)
    → ¬ AtSymbol image (commands_of image) P place
no_symbols image keeps count is none P place (i, c, inside, at_i, (k, less, at, here)) =
    let first = first_is image loader.LC_SYMTAB (unbroken_opened image keeps) refl c (i, inside, at_i) in
    let counted = symbols_counted image (commands_of image) ∙ ap (λ o. option_map_or (nsyms image) o 0) first in
    omega (arith, less, counted, is, none)
