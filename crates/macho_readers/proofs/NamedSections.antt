-- The sections of an opened image, what `find` and `any` return over them, and which is the first with the names of an
-- earlier one.
use Rattle.std.proofs.Common.{◌≡◌, ◌↔◌, ℕ, ◌+◌, ◌*◌, ◌<◌, ◌⊎◌, List, [], ◌∷◌, ◌++◌, map, length, get_or, slice_index, Any, Contains, Bool, true, false, Option, IsTrue, refl, sym, ap, subst, arith, inl, inr}
use denote.Ref.{Bor}
use Rattle.std.specs.Prelude.{flat_map}
use Rattle.std.specs.Bool.{MatchBool}
use Rattle.std.specs.Fn.{Mut, Called, CalledAt}
use Rattle.std.specs.Iterator.{YieldsFirst, FindsItem, ChecksAny, CallableAtEachTurn}
use Rattle.std.specs.List.{AllWithin, HoldsAt}
use Rattle.std.specs.Option.{option_map}
use Rattle.std.proofs.lemmas.Bool.{false≢true}
use Rattle.std.proofs.lemmas.Iterator.{YieldsList, cases_from_any, first_from_find}
use Rattle.std.proofs.lemmas.Iterator.Adapters.{serves_from_places}
use Rattle.std.proofs.lemmas.Iterator.Consumers.{YieldsList-from_first}
use Rattle.std.proofs.lemmas.List.Elements.{Contains-append_cases, Contains-append_right, Contains-get_or}
use Rattle.macho_fields.specs.FirstPlace.{IsLeastPlace}
use Rattle.macho_fields.specs.Image.{commands_of}
use Rattle.macho_fields.specs.Segment.{segments_of, sections_in, nsects}
use Rattle.macho_fields.specs.declared.header.loader.TheConstants as loader
use Rattle.macho_fields.proofs.FirstPlaces.{AreBreaks}
use Rattle.macho_fields.proofs.Lists.{none_in_nil, contains_first, contains_later, contains_mapped}
use Rattle.macho_fields.proofs.Opened.{command_inside, sections_inside}
use Rattle.macho_fields.proofs.Parts.{with_cmd_is, with_cmd_among}
use Rattle.macho_image.specs.Opened.{IsOpened}
use Rattle.macho_image.specs.Segment.{SectionView, section_at, section_name, sections_of, sections_with}
use Rattle.macho_rules.proofs.Judged.{opened_facts, opened_commands}
use Rattle.macho_rules.proofs.Searches.{are_breaks_at, any_of, one_of, mapped_has, has_number}
use Rattle.macho_rules.proofs.SectionItems.{AreSections, sections_rising, with_segment}
use Rattle.macho_tables.proofs.Places.{least_same}
use Rattle.macho_readers.specs.Sections.{segment_name_of, LieInside, HasEarlierNames, HasBadName, AtSection, BreaksSectionName, IsMisnamed}
use Rattle.macho_readers.proofs.Found.{least_found}
use Rattle.macho_readers.specs.Names.{number_of}
use Rattle.macho_readers.proofs.NameNumbers.{same_short}
use Rattle.macho_readers.proofs.SameNames.{RepeatsListed}

module _ (image : List ℕ) where
  abbrev pub sections : List (ℕ × ℕ)
  sections = sections_of image (commands_of image)

  pub of_segments : (segments : List ℕ) (pair : ℕ × ℕ) → Contains (flat_map (sections_with image) segments) pair → Contains segments pair.0 × Contains (sections_in image pair.0) pair.1
  of_segments [] pair has = absurd (none_in_nil pair has)
  of_segments (x ∷ xs) pair has =
      elim (Contains-append_cases (sections_with image x) (flat_map (sections_with image) xs) pair has) [
        | inl here ↦ (let (same, among) = with_segment image x pair here in
            (subst (Contains (x ∷ xs)) (sym same) (contains_first x xs), subst (λ s. Contains (sections_in image s) pair.1) (sym same) among))
        | inr later ↦ (let (has_segment, among) = of_segments xs pair later in (contains_later x pair.0 xs has_segment, among))
      ]

  module _ (opened : IsOpened image) where
    pub pair_inside : (pair : ℕ × ℕ) → Contains sections pair → LieInside image pair
    pair_inside pair has =
        let (has_segment, among) = of_segments (segments_of image (commands_of image)) pair has in
        let listed = with_cmd_among image (commands_of image) loader.LC_SEGMENT_64 pair.0 has_segment in
        let is = with_cmd_is image (commands_of image) loader.LC_SEGMENT_64 pair.0 has_segment in
        let facts = opened_facts image opened in
        let are = opened_commands image opened in
        let (k, _, within, at) = has_number (λ k. pair.0 + 72 + 80 * k) 0 (nsects image pair.0) pair.1 among in
        let holds = sections_inside image (commands_of image) facts are pair.0 listed is in
        let whole = command_inside image (commands_of image) facts are pair.0 listed in
        (omega (arith, holds, whole), omega (arith, holds, whole, within, at))

    module _ {all : List SectionView} (are : AreSections image all) where
      view_of : (s : SectionView) → Contains all s → (pair : ℕ × ℕ) × Contains sections pair × (section_at image pair ≡ s)
      view_of s has = mapped_has (section_at image) sections s (subst (λ these. Contains these s) are has)

      pub sections_yield : YieldsList (YieldsFirst (λ (left : List SectionView). left)) (λ s. s) all all
      sections_yield = YieldsList-from_first (λ (s : SectionView). s) (λ (left : List SectionView). left) all refl

      inside : (s : SectionView) → Contains all s → LieInside s.image (s.segment, s.place)
      inside s has = let (pair, among, is) = view_of s has in subst (λ (t : SectionView). LieInside t.image (t.segment, t.place)) is (pair_inside pair among)

      -- the one that a walk reaches
      pub next_inside : (seen rest : List SectionView) (s : SectionView) → all ≡ seen ++ s ∷ rest → LieInside s.image (s.segment, s.place)
      next_inside seen rest s is = inside s (subst (λ these. Contains these s) (sym is) (Contains-append_right seen (s ∷ rest) s (contains_first s rest)))

      -- what a closure may be asked: about sections that lie inside the image
      pub each_section : {F : Type 0} {R : F → SectionView → F → Type 0} {Q : F → SectionView → Type 0} {f : F} → ((s : SectionView) (q : F) → R f s q → q ≡ f)
          → ((s : SectionView) → LieInside s.image (s.segment, s.place) → Q f s) → CallableAtEachTurn (YieldsFirst (λ (left : List SectionView). left)) R Q all f
      each_section stays asks = serves_from_places sections_yield stays (λ s k less at. asks s (inside s (k, less, sym at)))

      -- what `find` returns is at the least place of a section with P
      pub first_section : {F : Type 0} {g : Mut F (Bor SectionView × Unit {0}) Bool} {f : F} (u : List SectionView) (P : List ℕ → ℕ × ℕ → Type 0) (r : Option SectionView)
          → FindsItem (YieldsFirst (λ (left : List SectionView). left)) g all f r u
          → ((y : Bor SectionView) (b : Bool) (q : F) → Called g f (y, tt) b q → (q ≡ f) × (IsTrue b ↔ P y.now.image (y.now.segment, y.now.place)))
          → IsLeastPlace (AtSection image (P image)) (option_map (λ (s : SectionView). s.place) r)
      first_section {F = F} {g = g} {f = f} u P r ran says =
          least_found (λ (s : SectionView). s.place) (λ (s : SectionView). P s.image (s.segment, s.place)) (AtSection image (P image)) all breaks (sections_rising image all opened are) r
          (first_from_find _ _ r (λ (s : SectionView). P s.image (s.segment, s.place)) (λ (s : SectionView). ¬ P s.image (s.segment, s.place)) ran sections_yield (λ s q k. (at s true q k).1.0 refl) (λ s q k. let (same, is) = at s false q k in (same, λ has. false≢true (is.1 has))))
        where
          at : (s : SectionView) (b : Bool) (q : F) → CalledAt g f s b q → (q ≡ f) × (IsTrue b ↔ P s.image (s.segment, s.place))
          at s b q k = let (same, is) = says k.shown b q k.called in (same, subst (λ (y : SectionView). IsTrue b ↔ P y.image (y.segment, y.place)) k.shows is)

          breaks : AreBreaks (AtSection image (P image)) (λ s. s.place) (λ s. P s.image (s.segment, s.place)) all
          breaks =
              subst (AreBreaks (AtSection image (P image)) (λ s. s.place) (λ s. P s.image (s.segment, s.place))) (sym are)
              (are_breaks_at (AtSection image (P image)) (λ (s : SectionView). s.place) (λ (s : SectionView). P s.image (s.segment, s.place)) (section_at image) sections
              (λ pair has here. any_of (λ section. (pair.1 ≡ section.1) × P image section) sections pair has (refl, here))
              (λ place broken. let (pair, has, (is, here)) = one_of (λ section. (place ≡ section.1) × P image section) sections broken in (pair, has, here, sym is)))

      -- what `any` returns
      pub any_section : {F : Type 0} {g : Mut F (SectionView × Unit {0}) Bool} {f : F} {u : List SectionView} (P : List ℕ → ℕ × ℕ → Type 0) (r : Bool)
          → ChecksAny (YieldsFirst (λ (left : List SectionView). left)) g all f r u
          → ((s : SectionView) (b : Bool) (q : F) → Called g f (s, tt) b q → (q ≡ f) × (IsTrue b ↔ P s.image (s.segment, s.place))) → IsTrue r ↔ Any (P image) sections
      any_section P r ran says =
          decided r
          (cases_from_any _ _ r Has (λ s. ¬ Has s) ran sections_yield (λ s q k. (says s true q k).1.0 refl) (λ s q k. let (same, is) = says s false q k in (same, λ has. false≢true (is.1 has))))
        where
          Has : SectionView → Type 0
          Has s = P s.image (s.segment, s.place)

          some : (k : ℕ) → k < length all → HoldsAt Has all k → Any (P image) sections
          some k less holds =
              let d : SectionView = section_at image (0, 0) in
              let s = get_or all k d in
              let (pair, among, is) = view_of s (Contains-get_or all k d less) in
              any_of (P image) sections pair among (subst Has (sym is) (holds d))

          none : AllWithin (λ s. ¬ Has s) all 0 (length all) → ¬ Any (P image) sections
          none kept any =
              let (pair, among, here) = one_of (P image) sections any in
              let (k, less, at) = subst (λ these. Contains these (section_at image pair)) (sym are) (contains_mapped (section_at image) sections pair among) in
              kept k (section_at image pair) (omega arith) less (subst Has (sym at) here)

          decided : (r : Bool) → MatchBool r ((k : ℕ) × (k < length all) × HoldsAt Has all k) (AllWithin (λ s. ¬ Has s) all 0 (length all)) → IsTrue r ↔ Any (P image) sections
          decided true (k, less, holds) = (λ _. some k less holds, λ _. refl)
          decided false kept = (λ wrong. absurd (false≢true wrong), λ any. absurd (none kept any))

  -- the numbers of the names of a section, and its place
  abbrev pub named : ℕ × ℕ → ℕ × ℕ × ℕ
  named section = (number_of (segment_name_of image section.1), number_of (section_name image section.1), section.1)

  module _ (fits : (k : ℕ) → slice_index image k < 256) where
    to : (place : ℕ) → RepeatsListed named sections place → AtSection image (HasEarlierNames image) place
    to place (one, earlier, has, has_earlier, segment, section, less, is) =
        any_of (λ s. (place ≡ s.1) × HasEarlierNames image s) sections one has (
          is,
          any_of (λ e. (e.1 < one.1) × (section_name image e.1 ≡ section_name image one.1) × (segment_name_of image e.1 ≡ segment_name_of image one.1)) sections earlier has_earlier (
            less,
            same_short image fits earlier.1 one.1 section,
            same_short image fits (earlier.1 + 16) (one.1 + 16) segment,
          ),
        )

    from : (place : ℕ) → AtSection image (HasEarlierNames image) place → RepeatsListed named sections place
    from place at =
        let (one, has, (is, any)) = one_of (λ s. (place ≡ s.1) × HasEarlierNames image s) sections at in
        let (earlier, has_earlier, (less, section, segment)) = one_of (λ e. (e.1 < one.1) × (section_name image e.1 ≡ section_name image one.1) × (segment_name_of image e.1 ≡ segment_name_of image one.1)) sections any in
        (one, earlier, has, has_earlier, ap number_of segment, ap number_of section, less, is)

    pub sections_repeat : (found : Option ℕ) → IsLeastPlace (RepeatsListed named sections) found → IsLeastPlace (AtSection image (HasEarlierNames image)) found
    sections_repeat found = least_same (RepeatsListed named sections) (AtSection image (HasEarlierNames image)) found (λ place. (to place, from place))

  -- the two parts of the rule
  pub both : (place : ℕ) → (AtSection image (IsMisnamed image) place ⊎ AtSection image (HasEarlierNames image) place) ↔ BreaksSectionName image place
  unfolding IsMisnamed
  both place = (joined, split)
    where
      joined : AtSection image (IsMisnamed image) place ⊎ AtSection image (HasEarlierNames image) place → BreaksSectionName image place
      joined (inl at) = let (s, has, (is, here)) = one_of (λ s. (place ≡ s.1) × IsMisnamed image s) sections at in
          any_of (λ s. (place ≡ s.1) × HasBadName image s) sections s has (is, elim here [ inl tail ↦ inl tail | inr other ↦ inr (inl other) ])
      joined (inr at) = let (s, has, (is, here)) = one_of (λ s. (place ≡ s.1) × HasEarlierNames image s) sections at in
          any_of (λ s. (place ≡ s.1) × HasBadName image s) sections s has (is, inr (inr here))

      split : BreaksSectionName image place → AtSection image (IsMisnamed image) place ⊎ AtSection image (HasEarlierNames image) place
      split at = let (s, has, (is, here)) = one_of (λ s. (place ≡ s.1) × HasBadName image s) sections at in
          elim here [
            | inl tail ↦ inl (any_of (λ s. (place ≡ s.1) × IsMisnamed image s) sections s has (is, inl tail))
            | inr rest ↦ elim rest [
              | inl other ↦ inl (any_of (λ s. (place ≡ s.1) × IsMisnamed image s) sections s has (is, inr other))
              | inr earlier ↦ inr (any_of (λ s. (place ≡ s.1) × HasEarlierNames image s) sections s has (is, earlier))
            ]
          ]

-- as they are listed
pub mapped_names : (image : List ℕ) (pairs : List (ℕ × ℕ)) → map (λ (s : SectionView). named s.image (s.segment, s.place)) (map (section_at image) pairs) ≡ map (named image) pairs
mapped_names image [] = refl
mapped_names image (p ∷ ps) = ap (λ rest. named image p ∷ rest) (mapped_names image ps)
