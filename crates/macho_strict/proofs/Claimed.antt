-- What one walk over the elements of an image finds.
use Rattle.std.proofs.Common.{◌≡◌, ◌⊎◌, ℕ, ◌+◌, ◌-◌, ◌^◌, ◌<◌, min, true, List, [], ◌∷◌, ◌++◌, length, map, Option, None, Some, Result, Ok, Err, OnErr, refl, sym, ap, ◌∙◌, subst, arith, inl, inr}
use Rattle.std.proofs.lemmas.Bool.{cases_lt}
use Rattle.std.proofs.lemmas.List.{get_or-map, map_push}
use Rattle.macho_spans.specs.Overlap.{span_at}
use Rattle.macho_spans.specs.Span.{Holds}
use Rattle.macho_spans.specs.declared.span.Span.{Span}
use Rattle.macho_fields.specs.FirstPlace.{IsLeastPlace}
use Rattle.macho_fields.specs.declared.rule.Rule.TheVariants as rule
use Rattle.macho_fields.proofs.FirstPlaces.{AreBreaks}
use Rattle.macho_fields.proofs.Lists.{any_of}
use Rattle.macho_image.specs.Opened.{IsOpened}
use Rattle.macho_strict.specs.Claims.{least_option, AreNoted}
use Rattle.macho_strict.specs.Passed.{AreCounted, occupied, ArePassedFor, CoverSame}
use Rattle.macho_strict.specs.Elements.{elements_of}
use Rattle.macho_strict.specs.Gaps.{AreInside, IsFree}
use Rattle.macho_strict.specs.Rules.{BreaksStrictImage, SharesBytes, EndsPast, SomeElementEndsPast}
use Rattle.macho_strict.specs.Sharing.{IsFirstSharing, tagged_elements}
use Rattle.macho_strict.specs.Verdict.{element_spans}
use Rattle.macho_strict.specs.declared.claims.Noted.{Noted}
use Rattle.macho_strict.specs.declared.claims.Noted.TheVariants as noted
use Rattle.macho_strict.specs.declared.elements.Element.{Element}
use Rattle.macho_strict.specs.declared.gaps.CountedGaps.{CountedGaps}
use Rattle.macho_strict.specs.declared.gaps.Gaps.{Gaps}
use Rattle.macho_strict.specs.declared.gaps.Wanted.{Wanted}
use Rattle.macho_strict.specs.declared.gaps.Wanted.TheVariants as wanted
use Rattle.macho_strict.proofs.ElementPlaces.{place_of, elements_rise}
use Rattle.macho_strict.proofs.Occupied.{occupied_same, with_place, without_place}
use Rattle.macho_strict.proofs.Passed.{no_span, least_same, passed_empty}
use Rattle.macho_strict.proofs.Sharings.{least_sharing, none_sharing}

abbrev pub span_of : Element → Span
span_of element = element.span

-- the least place of either of two predicates
pub least_of_either : (P Q : ℕ → Type 0) (a b : Option ℕ) → IsLeastPlace P a → IsLeastPlace Q b → IsLeastPlace (λ p. P p ⊎ Q p) (least_option a b)
least_of_either P Q None None none nor = λ p either. elim either [ inl is ↦ none p is | inr is ↦ nor p is ]
least_of_either P Q None (Some b) none (here, least) = (inr here, λ p either. elim either [ inl is ↦ absurd (none p is) | inr is ↦ least p is ])
least_of_either P Q (Some a) None (here, least) none = (inl here, λ p either. elim either [ inl is ↦ least p is | inr is ↦ absurd (none p is) ])
least_of_either P Q (Some a) (Some b) (here, least) (there, lowest) = elim (cases_lt a b) [
  | inl less ↦ let same : a ≡ min a b = omega arith in
      (subst (λ p. P p ⊎ Q p) same (inl here), λ p either. elim either [ inl is ↦ let low = least p is in omega arith | inr is ↦ let low = lowest p is in omega arith ])
  | inr most ↦ let same : b ≡ min a b = omega arith in
      (subst (λ p. P p ⊎ Q p) same (inr there), λ p either. elim either [ inl is ↦ let low = least p is in omega arith | inr is ↦ let low = lowest p is in omega arith ])
]

-- One element more

module _ (elements : List Element) (x : Element) where
  -- is listed, if it has bytes
  pub listed_more : (list new : List Span) → 0 < x.span.len → list ≡ occupied (map span_of elements) → new ≡ list ++ x.span ∷ [] → new ≡ occupied (map span_of (elements ++ x ∷ []))
  listed_more list new filled are added = added ∙ (ap (λ (spans : List Span). spans ++ x.span ∷ []) are ∙ sym (with_place elements x filled))

  pub listed_still : (list : List Span) → x.span.len ≡ 0 → list ≡ occupied (map span_of elements) → list ≡ occupied (map span_of (elements ++ x ∷ []))
  listed_still list empty are = are ∙ sym (without_place elements x empty)

  -- or was passed
  pub counted_more : (wanted : Wanted) (bytes : List ℕ) (counted : CountedGaps) → AreCounted wanted bytes (map span_of elements ++ x.span ∷ []) counted → AreCounted wanted bytes (map span_of (elements ++ x ∷ [])) counted
  counted_more wanted bytes counted are = subst (λ (spans : List Span). AreCounted wanted bytes spans counted) (sym (map_push span_of elements x)) are

  -- or is not, if it has none
  pub counted_still : (wanted : Wanted) (bytes : List ℕ) (counted : CountedGaps) → x.span.len ≡ 0 → AreCounted wanted bytes (map span_of elements) counted → AreCounted wanted bytes (map span_of (elements ++ x ∷ [])) counted
  counted_still wanted bytes counted empty (are, count) =
      counted_more wanted bytes counted (
        passed_empty wanted bytes (map span_of elements) x.span counted.gaps are empty,
        count ∙ ap (λ (spans : List Span). min (length spans) (2 ^ 64 - 1)) (sym (occupied_same (map span_of elements) x.span empty)),
      )

  pub noted_empty : (image : List ℕ) (held : Noted) → x.span.len ≡ 0 → AreNoted image elements held → AreNoted image (elements ++ x ∷ []) held
  noted_empty image (noted.Listed list) empty are = listed_still list.spans empty are
  noted_empty image noted.Unlisted empty are = tt
  noted_empty image (noted.Passed counted) empty are = counted_still wanted.NonZero image counted empty are

-- All elements of an image were passed

-- where they ascend, no two share a byte
pub none_shared : (image : List ℕ) (gaps : Gaps) → ArePassedFor image (element_spans image) gaps → gaps.ascend ≡ true → IsFirstSharing (tagged_elements image) None
none_shared image gaps are up = none_sharing (elements_of image) (element_spans image) refl (are.apart (are.passed.ascending.0 up))

-- Which elements end past the image

-- none does, where the spans that have the same places end inside
pub none_outside : (image : List ℕ) (spans : List Span) → CoverSame (element_spans image) spans → AreInside image spans → IsLeastPlace (SomeElementEndsPast image) None
none_outside image spans same inside = λ p (k, e, less, at, (past, is)).
    let last : ℕ = e.span.start + e.span.len - 1 in
    let free : IsFree spans last = λ i held. let by = inside i (omega (arith, held.0, held.1)) in absurd (omega (arith, by, held.1, past)) in
    let here : span_at (element_spans image) k ≡ e.span = get_or-map span_of (elements_of image) k e no_span less ∙ ap span_of at in
    (same last).1 free k (subst (λ (s : Span). Holds s last) (sym here) (omega (arith, past), omega (arith, past)))

pub some_element_ends_past : (image : List ℕ) → AreBreaks (SomeElementEndsPast image) place_of (EndsPast image) (elements_of image)
some_element_ends_past image = record {
  broken = λ x has past. any_of _ (elements_of image) x has (past, refl);
  only = λ p (k, e, less, at, (past, is)). (e, (k, less, at), past, is);
}

-- where the elements of an opened image break their rule
pub overlap_found : (image : List ℕ) → IsOpened image → (outside shared : Option ℕ) → IsLeastPlace (SomeElementEndsPast image) outside → IsFirstSharing (tagged_elements image) shared
    → IsLeastPlace (BreaksStrictImage image rule.ElementOverlap) (least_option outside shared)
overlap_found image opened outside shared past first =
    least_same (λ p. SomeElementEndsPast image p ⊎ SharesBytes image p) (BreaksStrictImage image rule.ElementOverlap)
    (λ p either. elim either [ inl is ↦ inr is | inr is ↦ inl is ]) (λ p either. elim either [ inl is ↦ inr is | inr is ↦ inl is ]) (least_option outside shared)
    (least_of_either (SomeElementEndsPast image) (SharesBytes image) outside shared past (least_sharing (elements_of image) (elements_rise image opened) shared first))

pub on_err : {T E P : Type 0} (answer : Result T E) → P → OnErr answer P
on_err (Ok x) p = tt
on_err (Err e) p = p
