-- A walk over the sections of an image, one after the other, that keeps the least place of what it looks for.
use Rattle.std.proofs.Common.{◌≡◌, ◌↔◌, ℕ, ◌⊎◌, List, [], ◌∷◌, ◌++◌, Any, Contains, Option, None, refl, sym, subst, inl, inr}
use Rattle.std.proofs.lemmas.List.Elements.{Contains-append_cases, Contains-append_left, Contains-append_right}
use Rattle.macho_fields.specs.FirstPlace.{IsLeastPlace}
use Rattle.macho_fields.specs.Image.{commands_of}
use Rattle.macho_fields.proofs.Lists.{any_nil, any_of, contains_first, contains_mapped, only_one}
use Rattle.macho_image.specs.Segment.{SectionView, section_at, sections_of}
use Rattle.macho_rules.proofs.Searches.{mapped_has, one_of}
use Rattle.macho_rules.proofs.SectionItems.{AreSections}
use Rattle.macho_rules.proofs.Surveys.{walked, walked_on, walked_all}
use Rattle.macho_tables.specs.Places.{lesser}
use Rattle.macho_tables.proofs.Places.{least_joined, least_same}

any_more : {X : Type 0} (P : X → Type 0) (xs : List X) (x : X) → (Any P xs ⊎ P x) ↔ Any P (xs ++ x ∷ [])
any_more {X = X} P xs x = (to, from)
  where
    to : Any P xs ⊎ P x → Any P (xs ++ x ∷ [])
    to (inl any) = let (y, has, here) = one_of P xs any in any_of P (xs ++ x ∷ []) y (Contains-append_left xs (x ∷ []) y has) here
    to (inr here) = any_of P (xs ++ x ∷ []) x (Contains-append_right xs (x ∷ []) x (contains_first x [])) here

    last_or : (y : X) → P y → Contains xs y ⊎ Contains (x ∷ []) y → Any P xs ⊎ P x
    last_or y here (inl before) = inl (any_of P xs y before here)
    last_or y here (inr last) = inr (subst P (sym (only_one x y last)) here)

    from : Any P (xs ++ x ∷ []) → Any P xs ⊎ P x
    from any = let (y, has, here) = one_of P (xs ++ x ∷ []) any in last_or y here (Contains-append_cases xs (x ∷ []) y has)

-- Of what is at a place of a section, which its segment and it name

module _ (At : List ℕ → ℕ → ℕ → ℕ → Type 0) where
  abbrev pub OfSection : ℕ → SectionView → Type 0
  OfSection place s = At s.image s.segment s.place place

  -- the least place in the sections that were passed
  pub record AreSearched (all left : List SectionView) (least : Option ℕ) : Type 0 where
    pub seen : List SectionView
    pub reached : all ≡ seen ++ left
    pub found : IsLeastPlace (λ place. Any (OfSection place) seen) least

  pub searched_none : (all : List SectionView) → AreSearched all all None
  searched_none all = record { seen = []; reached = refl; found = λ place any. any_nil (OfSection place) any }

  module _ (all left rest : List SectionView) (s : SectionView) (is : left ≡ s ∷ rest) (least : Option ℕ) (searched : AreSearched all left least) where
    pub searched_has : Contains all s
    searched_has = subst (λ these. Contains these s) (sym (walked all searched.seen left s rest searched.reached is)) (Contains-append_right searched.seen (s ∷ rest) s (contains_first s rest))

    pub searched_more : (one : Option ℕ) → IsLeastPlace (λ place. OfSection place s) one → AreSearched all rest (lesser least one)
    searched_more one here = record {
      seen = searched.seen ++ s ∷ [];
      reached = walked_on all searched.seen left s rest searched.reached is;
      found = least_same (λ place. Any (OfSection place) searched.seen ⊎ OfSection place s) (λ place. Any (OfSection place) (searched.seen ++ s ∷ [])) (lesser least one)
          (λ place. any_more (OfSection place) searched.seen s)
          (least_joined (λ place. Any (OfSection place) searched.seen) (λ place. OfSection place s) least one searched.found here);
    }

    -- it has none
    pub searched_less : ((place : ℕ) → ¬ OfSection place s) → AreSearched all rest least
    searched_less none = record {
      seen = searched.seen ++ s ∷ [];
      reached = walked_on all searched.seen left s rest searched.reached is;
      found = least_same (λ place. Any (OfSection place) searched.seen) (λ place. Any (OfSection place) (searched.seen ++ s ∷ [])) least
          (λ place. let same = any_more (OfSection place) searched.seen s in
          (λ any. same.0 (inl any), λ any. elim (same.1 any) [ inl before ↦ before | inr here ↦ absurd (none place here) ])) searched.found;
    }

  module _ (image : List ℕ) (all : List SectionView) (are : AreSections image all) where
    abbrev Of : ℕ → ℕ × ℕ → Type 0
    Of place section = At image section.0 section.1 place

    pub of_sections : (place : ℕ) → Any (OfSection place) all ↔ Any (Of place) (sections_of image (commands_of image))
    of_sections place = (
      λ any.
          let (s, has, here) = one_of (OfSection place) all any in
          let (section, among, at) = mapped_has (section_at image) (sections_of image (commands_of image)) s (subst (λ these. Contains these s) are has) in
          any_of (Of place) (sections_of image (commands_of image)) section among (subst (OfSection place) (sym at) here),
      λ any.
          let (section, among, here) = one_of (Of place) (sections_of image (commands_of image)) any in
          any_of (OfSection place) all (section_at image section)
          (subst (λ these. Contains these (section_at image section)) (sym are) (contains_mapped (section_at image) (sections_of image (commands_of image)) section among)) here,
    )

    pub searched_all : (left : List SectionView) → left ≡ [] → (least : Option ℕ) → AreSearched all left least
        → IsLeastPlace (λ place. Any (Of place) (sections_of image (commands_of image))) least
    searched_all left ended least searched =
        least_same (λ place. Any (OfSection place) all) (λ place. Any (Of place) (sections_of image (commands_of image))) least of_sections
        (subst (λ these. IsLeastPlace (λ place. Any (OfSection place) these) least) (sym (walked_all all searched.seen left searched.reached ended)) searched.found)
