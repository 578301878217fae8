-- The name of a symbol ends in the string table.
use Rattle.std.proofs.Common.{◌≡◌, ◌≢◌, ◌∙◌, ℕ, ◌+◌, ◌*◌, List, [], Option, Some, None, Contains, inr, refl, sym, ap, subst}
use Rattle.std.specs.Option.{option_map_or}
use Rattle.macho_fields.specs.Field.{HasZero}
use Rattle.macho_fields.specs.Image.{commands_of}
use Rattle.macho_fields.specs.Layers.{NothingBreaks}
use Rattle.macho_fields.specs.Rules.{BreaksImage}
use Rattle.macho_fields.specs.Symbol.{symoff, nsyms, stroff, strsize, n_strx}
use Rattle.macho_fields.specs.declared.header.loader.TheConstants as loader
use Rattle.macho_image.specs.Command.{first_with_cmd}
use Rattle.macho_image.specs.Symbol.{symbols_of, symbol_at, items_inside}
use Rattle.macho_image.specs.declared.symbol.Symbol.{Symbol}
use Rattle.macho_rules.proofs.OneCommand.{is_with_cmd}
use Rattle.macho_rules.proofs.Searches.{mapped_has}
use Rattle.macho_rules.proofs.TableItems.{in_items}
use Rattle.macho_rules.proofs.Verdicts.{unbroken_image_sound}
use Rattle.macho_alike.specs.Indirects.{symbols_in}

module _ (image : List ℕ) (unbroken : NothingBreaks (BreaksImage image None)) (symtab : ℕ) (first : first_with_cmd image loader.LC_SYMTAB (commands_of image) ≡ Some symtab) where
  pub ends_in_strings : (a : Symbol) → Contains (symbols_in image) a → a.strx ≢ 0 → HasZero image (stroff image symtab + a.strx) (stroff image symtab + strsize image symtab)
  ends_in_strings a has named =
      let (p, has_p, same) = mapped_has (symbol_at image) (symbols_of image (commands_of image)) a has in
      let places : symbols_of image (commands_of image) ≡ items_inside image (symoff image symtab) 16 (nsyms image symtab) =
      ap (λ (o : Option ℕ). option_map_or (λ t. items_inside image (symoff image t) 16 (nsyms image t)) o []) first in
      let (k, few, at) = in_items image (symoff image symtab) 16 (nsyms image symtab) p (subst (λ ps. Contains ps p) places has_p) in
      let (j, less, here) = is_with_cmd image loader.LC_SYMTAB symtab first in
      let strx : n_strx image p ≡ a.strx = ap (λ (s : Symbol). s.strx) same in
      let some : n_strx image (symoff image symtab + 16 * k) ≢ 0 = subst (λ q. n_strx image q ≢ 0) at (λ none. named (sym strx ∙ none)) in
      let end : ℕ = stroff image symtab + strsize image symtab in
      let ends = (unbroken_image_sound image unbroken).names (stroff image symtab + n_strx image (symoff image symtab + 16 * k)) end (inr (j, symtab, less, here, (k, few, (some, refl, refl)))) in
      subst (λ n. HasZero image (stroff image symtab + n) end) (ap (n_strx image) (sym at) ∙ strx) ends
