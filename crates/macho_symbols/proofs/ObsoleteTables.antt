-- Whether the one LC_DYSYMTAB of an image has tables that only older loaders follow.
use Rattle.std.proofs.Common.{◌≡◌, ℕ, ◌≤◌, List, None, Some, refl, sym, subst, le_refl}
use Rattle.macho_fields.specs.FirstPlace.{IsLeastPlace}
use Rattle.macho_fields.specs.Image.{commands_of}
use Rattle.macho_fields.specs.Layers.{NothingBreaks}
use Rattle.macho_fields.specs.Rules.{BreaksImage}
use Rattle.macho_fields.specs.declared.header.loader.TheConstants.{LC_DYSYMTAB}
use Rattle.macho_image.specs.Command.{first_with_cmd}
use Rattle.macho_image.specs.Symbol.{dysymtab_at}
use Rattle.macho_rules.proofs.OneCommand.{Has, is_with_cmd, none_with_cmd, one_with_cmd}
use Rattle.macho_rules.proofs.Verdicts.{unbroken_opened}
use Rattle.macho_symbols.specs.Obsolete.{IsObsolete, BreaksObsoleteTable}

module _ (image : List ℕ) (keeps : NothingBreaks (BreaksImage image None)) where
  pub no_dysymtab : first_with_cmd image LC_DYSYMTAB (commands_of image) ≡ None → IsLeastPlace (BreaksObsoleteTable image) None
  no_dysymtab none place (has, obsolete) = none_with_cmd image LC_DYSYMTAB none place has

  module _ (d : ℕ) (first : first_with_cmd image LC_DYSYMTAB (commands_of image) ≡ Some d) where
    is_first : (place : ℕ) → Has image LC_DYSYMTAB place → place ≡ d
    is_first place has = one_with_cmd image LC_DYSYMTAB (unbroken_opened image keeps) refl place d has (is_with_cmd image LC_DYSYMTAB d first)

    pub obsolete_there : IsObsolete image (dysymtab_at image d) → IsLeastPlace (BreaksObsoleteTable image) (Some d)
    obsolete_there obsolete = (
      (is_with_cmd image LC_DYSYMTAB d first, obsolete),
      λ place (has, other). subst (λ p. d ≤ p) (sym (is_first place has)) (le_refl d),
    )

    pub none_there : ¬ IsObsolete image (dysymtab_at image d) → IsLeastPlace (BreaksObsoleteTable image) None
    none_there none place (has, obsolete) = none (subst (λ p. IsObsolete image (dysymtab_at image p)) (is_first place has) obsolete)
