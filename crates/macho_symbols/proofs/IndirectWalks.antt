-- The sections of an image, and which of them have bad stubs or pointers.
use Rattle.std.proofs.Common.{◌≡◌, ℕ, List, [], ◌∷◌, Contains, None, Some, refl, sym, ap, subst}
use Rattle.macho_fields.specs.FirstPlace.{IsLeastPlace}
use Rattle.macho_fields.specs.Image.{commands_of}
use Rattle.macho_fields.proofs.FirstPlaces.{AreBreaks}
use Rattle.macho_image.specs.Segment.{SectionView, section_at, sections_of}
use Rattle.macho_rules.proofs.Searches.{Searching, search_found, search_ended, first_among, are_breaks_at, any_of, one_of, mapped_has}
use Rattle.macho_rules.proofs.SectionItems.{AreSections}
use Rattle.macho_symbols.specs.Indirects.{IsBadIndirects, BreaksIndirectRange}

abbrev pub IsBadSection : SectionView → Type 0
IsBadSection s = IsBadIndirects s.image s.place

-- each section that is bad is left
abbrev pub AreLeft : List SectionView → List SectionView → Type 0
AreLeft all left = Searching (λ (s : SectionView). s.place) IsBadSection all left

module _ (image : List ℕ) (all : List SectionView) (are : AreSections image all) where
  bad_sections : AreBreaks (BreaksIndirectRange image) (λ (s : SectionView). s.place) IsBadSection all
  bad_sections =
      subst (AreBreaks (BreaksIndirectRange image) (λ (s : SectionView). s.place) IsBadSection) (sym are)
      (are_breaks_at (BreaksIndirectRange image) (λ (s : SectionView). s.place) IsBadSection (section_at image) (sections_of image (commands_of image))
      (λ section has bad. any_of (λ (s : ℕ × ℕ). (section.1 ≡ s.1) × IsBadIndirects image s.1) (sections_of image (commands_of image)) section has (refl, bad))
      (λ place broken. let (section, has, (at, bad)) = one_of (λ (s : ℕ × ℕ). (place ≡ s.1) × IsBadIndirects image s.1) (sections_of image (commands_of image)) broken in
      (section, has, bad, sym at)))

  module _ (left rest : List SectionView) (s : SectionView) (is : left ≡ s ∷ rest) (search : AreLeft all left) where
    pub of_image : s.image ≡ image
    of_image =
        let has = first_among (λ (t : SectionView). t.place) IsBadSection all left rest s is search in
        let (section, among, at) = mapped_has (section_at image) (sections_of image (commands_of image)) s (subst (λ these. Contains these s) are has) in
        sym (ap (λ (t : SectionView). t.image) at)

    pub first_bad : IsBadSection s → (place : ℕ) → place ≡ s.place → IsLeastPlace (BreaksIndirectRange image) (Some place)
    first_bad bad place at =
        subst (λ p. IsLeastPlace (BreaksIndirectRange image) (Some p)) (sym at)
        (search_found (BreaksIndirectRange image) (λ (t : SectionView). t.place) IsBadSection all left rest s is bad_sections search bad)

  pub none_bad : (left : List SectionView) → left ≡ [] → AreLeft all left → IsLeastPlace (BreaksIndirectRange image) None
  none_bad left ended search = search_ended (BreaksIndirectRange image) (λ (t : SectionView). t.place) IsBadSection all left ended bad_sections search
