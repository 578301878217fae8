-- A symbol that is found by its name, and the other definitions of the name.
use Rattle.std.proofs.Common.{◌≡◌, ◌≢◌, ◌∙◌, ℕ, ◌+◌, ◌*◌, ◌<◌, List, [], map, slice_get, Option, Some, None, Contains, refl, sym, ap, subst, arith}
use Rattle.std.specs.Option.{option_map, option_map_or}
use Rattle.std.proofs.lemmas.Option.{slice_get_within, get_or_from_slice_get}
use Rattle.macho_fields.specs.Field.{string_from}
use Rattle.macho_fields.specs.Image.{commands_of}
use Rattle.macho_fields.specs.Symbol.{symoff, nsyms, stroff}
use Rattle.macho_fields.specs.declared.header.loader.TheConstants as loader
use Rattle.macho_image.specs.Command.{first_with_cmd}
use Rattle.macho_image.specs.Symbol.{symtab_at, symbols_of, symbol_at, items_inside}
use Rattle.macho_image.specs.declared.symbol.Symbol.{Symbol}
use Rattle.macho_image.specs.declared.symtab.Symtab.{Symtab}
use Rattle.macho_rules.proofs.OneCommand.{is_with_cmd}
use Rattle.macho_rules.proofs.Searches.{mapped_has}
use Rattle.macho_rules.proofs.TableItems.{in_items}
use Rattle.macho_rows.specs.Image.{symtab_in, field_of}
use Rattle.macho_rows.specs.SymbolNames.{HasNameIn, FindsNamed}
use Rattle.macho_rows.specs.declared.symbols.KesvuotSymbol.{KesvuotSymbol}
use Rattle.macho_alike.specs.DefinitionModels.{AllDefinitionsAgree, IsDefinition}
use Rattle.macho_alike.specs.Definitions.{DefinesName, name_of, meaning_of}
use Rattle.macho_alike.specs.SymbolModels.{symbol_place}
use Rattle.macho_alike.specs.Symbols.{IsDefined}
use Rattle.macho_c.specs.Status.{AnswersSymbol}
use Rattle.macho_c.specs.SymbolNames.{FindsMeaning, meaning_in}

-- a symbol of the table with the name that is external and defined is a definition of the name
module _ (image : List ℕ) (symtab : ℕ) (first : first_with_cmd image loader.LC_SYMTAB (commands_of image) ≡ Some symtab) where
  definition : (name : List ℕ) (s : Symbol) (n : ℕ) → slice_get (map (symbol_at image) (symbols_of image (commands_of image))) n ≡ Some s → HasNameIn image name s → IsDefined s.kind
      → (k : ℕ) × IsDefinition image symtab name k × (symbol_at image (symbol_place image symtab k) ≡ s)
  definition name s n at (entry, named, is) defined =
      let symbols = map (symbol_at image) (symbols_of image (commands_of image)) in
      let has : Contains symbols s = (n, slice_get_within symbols n s at, get_or_from_slice_get symbols n s s at) in
      let (p, has_p, same) = mapped_has (symbol_at image) (symbols_of image (commands_of image)) s has in
      let places : symbols_of image (commands_of image) ≡ items_inside image (symoff image symtab) 16 (nsyms image symtab) =
      ap (λ (o : Option ℕ). option_map_or (λ t. items_inside image (symoff image t) 16 (nsyms image t)) o []) first in
      let (k, few, here) = in_items image (symoff image symtab) 16 (nsyms image symtab) p (subst (λ ps. Contains ps p) places has_p) in
      let own : symbol_at image (symbol_place image symtab k) ≡ s = ap (symbol_at image) (sym here) ∙ same in
      let strings : field_of (λ (t : Symtab). t.stroff) (symtab_in image) ≡ stroff image symtab =
      ap (λ (o : Option ℕ). field_of (λ (t : Symtab). t.stroff) (option_map (symtab_at image) o)) first in
      let spelled : name_of image symtab s ≡ name = subst (λ start. string_from (start + s.strx) image ≡ name) strings is in (
        k,
        (
          (is_with_cmd image loader.LC_SYMTAB symtab first, few),
          subst DefinesName (sym own) (defined, named),
          subst (λ a. name_of image symtab a ≡ name) (sym own) spelled,
        ),
        own,
      )

-- so whichever definition another reader takes, it says what the found one says
pub finds_meaning : (image name : List ℕ) (sections status number : ℕ) (row : KesvuotSymbol) (found : Option (ℕ × Symbol)) → AllDefinitionsAgree image → FindsNamed image name found
    → AnswersSymbol sections status number row found → FindsMeaning image name status row
finds_meaning image name sections status number row None agree is (none, _, _) = λ ok. absurd (omega (arith, ok, none))
finds_meaning image name sections status number row (Some (n, s)) agree (at, named, _) (_, _, same) = λ ok defined symtab k first other.
    let (m, own, here) = definition image symtab first name s n at named (subst (λ (r : KesvuotSymbol). IsDefined r.kind) same defined) in
    ap meaning_in same ∙ (ap meaning_of (sym here) ∙ agree symtab name m k own other)
