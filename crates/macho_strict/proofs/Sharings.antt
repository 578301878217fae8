-- Which of the elements of a list is the first that shares a place with an earlier one.
use Rattle.std.proofs.Common.{◌≡◌, ℕ, ◌≤◌, ◌<◌, List, [], ◌∷◌, length, map, get_or, Option, None, Some, MatchOption, slice_get, refl, sym, ap, ◌∙◌, subst, arith, inl, inr}
use Rattle.std.specs.Iterator.{Yields, Drains, YieldsFirst, SkipsThenYields}
use Rattle.std.specs.Option.{option_map}
use Rattle.std.specs.Prelude.{IsSomeAnd}
use Rattle.std.proofs.lemmas.Iterator.{YieldsList}
use Rattle.std.proofs.lemmas.Iterator.Adapters.{option_map_id}
use Rattle.std.proofs.lemmas.Iterator.Consumers.{YieldsList-from_first, YieldsList-end, nth_from_yields_List}
use Rattle.std.proofs.lemmas.Bool.{cases_order}
use Rattle.std.proofs.lemmas.List.{get_or-map, length-map, map-id}
use Rattle.std.proofs.lemmas.Option.{slice_get-get_or, slice_get-map, slice_get_within, get_or_from_slice_get, none-some, same_Some}
use Rattle.macho_fields.specs.FirstPlace.{IsLeastPlace}
use Rattle.macho_spans.specs.Overlap.{span_at, SharesEarlier, IsLeastSharing}
use Rattle.macho_spans.specs.SpanOrder.{spans_in, tags_in}
use Rattle.macho_spans.specs.declared.span.Span.{Span}
use Rattle.macho_rules.proofs.Searches.{Rising, ordered_at}
use Rattle.macho_strict.specs.Passed.{AreCounted, occupied}
use Rattle.macho_strict.specs.Rules.{SharesEarlierElement}
use Rattle.macho_strict.specs.Sharing.{tagged, IsFirstSharing}
use Rattle.macho_strict.specs.declared.elements.Element.{Element}
use Rattle.macho_strict.specs.declared.gaps.CountedGaps.{CountedGaps}
use Rattle.macho_strict.specs.declared.gaps.Wanted.{Wanted}

-- What is read of each element

abbrev span_of : Element → Span
span_of element = element.span

abbrev tag_of : Element → ℕ
tag_of element = element.described

pub spans_tagged : (all : List Element) → spans_in (tagged all) ≡ map span_of all
spans_tagged [] = refl
spans_tagged (e ∷ es) = ap (λ rest. e.span ∷ rest) (spans_tagged es)

pub tags_tagged : (all : List Element) → tags_in (tagged all) ≡ map tag_of all
tags_tagged [] = refl
tags_tagged (e ∷ es) = ap (λ rest. e.described ∷ rest) (tags_tagged es)

-- the tag of what was found, as `map` returns it
pub tag_found : (found : Option Element) (answer : Option ℕ) → MatchOption found (answer ≡ None) (λ e. IsSomeAnd answer (λ tag. tag ≡ tag_of e)) → answer ≡ option_map tag_of found
tag_found None answer is = is
tag_found (Some e) None is = absurd is
tag_found (Some e) (Some tag) is = ap Some is

-- An iterator that has all of them left

module _ {X : Type 0} (all given : List X) (is : given ≡ all) where
  road : YieldsList (YieldsFirst (λ (left : List X). left)) (λ (x : X). x) given all
  road = YieldsList-from_first (λ (x : X). x) (λ (left : List X). left) all is

  drained : (xs : List X) → Drains (YieldsFirst (λ (left : List X). left)) given xs → xs ≡ all
  drained xs (u, (t, yielded, ended)) = let (same, _) = YieldsList-end road xs t yielded None u refl ended in sym (map-id xs) ∙ same

  -- in a loop over them that has ended
  pub all_yielded : (yielded left rest : List X) (next : Option X) → Yields (YieldsFirst (λ (these : List X). these)) given yielded left
      → YieldsFirst (λ (these : List X). these) left next rest → next ≡ None → yielded ≡ all
  all_yielded yielded left rest next came steps ended = let (same, _) = YieldsList-end road yielded left came next rest ended steps in sym (map-id yielded) ∙ same

-- the spans that were drained are all spans
pub drained_spans : (all given : List Element) → given ≡ all → (spans : List Span) (xs : List Element) → Drains (YieldsFirst (λ (left : List Element). left)) given xs → spans ≡ map span_of xs → spans ≡ map span_of all
drained_spans all given is spans xs ran are = are ∙ ap (map span_of) (drained all given is xs ran)

pub drained_occupied : (all given : List Element) → given ≡ all → (spans : List Span) (xs : List Element) → Drains (YieldsFirst (λ (left : List Element). left)) given xs → spans ≡ occupied (map span_of xs) → spans ≡ occupied (map span_of all)
drained_occupied all given is spans xs ran are = are ∙ ap (λ (es : List Element). occupied (map span_of es)) (drained all given is xs ran)

-- and so are those that were passed and counted, of whatever bytes
pub drained_counted : (wanted : Wanted) (all given : List Element) → given ≡ all → (image bytes : List ℕ) → bytes ≡ image → (counted : CountedGaps) (xs : List Element)
    → Drains (YieldsFirst (λ (left : List Element). left)) given xs → AreCounted wanted bytes (map span_of xs) counted → AreCounted wanted image (map span_of all) counted
drained_counted wanted all given is image bytes own counted xs ran are =
    subst (λ (es : List Element). AreCounted wanted image (map span_of es) counted) (drained all given is xs ran)
    (subst (λ (bs : List ℕ). AreCounted wanted bs (map span_of xs) counted) own are)

-- The spans of all of them

module _ (all : List Element) (spans : List Span) (are : spans ≡ map span_of all) where
  all_spans : spans ≡ spans_in (tagged all)
  all_spans = are ∙ sym (spans_tagged all)

  -- where no span shares a place with an earlier one
  pub none_sharing : ((j : ℕ) → ¬ SharesEarlier spans j) → IsFirstSharing (tagged all) None
  none_sharing none j shares = none j (subst (λ ss. SharesEarlier ss j) (sym all_spans) shares)

  -- the element with the index of the first span that does
  module _ (j : ℕ) (least : IsLeastSharing spans j) (found : Option Element) (rest other : List Element) (same : other ≡ all) (skipped : SkipsThenYields (YieldsFirst (λ (left : List Element). left)) other j found rest) where
    within : j < length all
    within =
        let less : j < length spans = least.0.0 in
        let count : length spans ≡ length all = ap length are ∙ length-map all span_of in omega arith

    found_at : found ≡ slice_get all j
    found_at = sym (option_map_id found) ∙ nth_from_yields_List found rest j skipped (YieldsList-from_first (λ (e : Element). e) (λ (left : List Element). left) all same)

    pub first_sharing : (answer : Option ℕ) → answer ≡ option_map tag_of found → IsFirstSharing (tagged all) answer
    first_sharing None none = absurd (none-some _ (none ∙ (ap (option_map tag_of) found_at ∙ (sym (slice_get-map tag_of all j) ∙ slice_get-get_or (map tag_of all) j 0 (omega (arith, within, length-map all tag_of))))))
    first_sharing (Some tag) at = (
      j,
      subst (λ ss. IsLeastSharing ss j) all_spans least,
      ap (λ ts. slice_get ts j) (tags_tagged all) ∙ (slice_get-map tag_of all j ∙ sym (at ∙ ap (option_map tag_of) found_at)),
    )

-- Which elements share a place with an earlier one, where the places of what describes them do not fall

abbrev no_span : Span
no_span = record { start = 0; len = 0 }

module _ (all : List Element) where
  span_is : (k : ℕ) (e : Element) → slice_get all k ≡ Some e → span_at (spans_in (tagged all)) k ≡ e.span
  span_is k e at =
      ap (λ ss. span_at ss k) (spans_tagged all)
      ∙ (get_or-map span_of all k e no_span (slice_get_within all k e at) ∙ ap span_of (get_or_from_slice_get all k e e at))

  counted : length (spans_in (tagged all)) ≡ length all
  counted = ap length (spans_tagged all) ∙ length-map all span_of

  spans_share : (j : ℕ) (later : Element) → SharesEarlierElement all j later → SharesEarlier (spans_in (tagged all)) j
  spans_share j later (at, (i, earlier, less, before, shares)) =
      let within = slice_get_within all j later at in
      (omega (arith, counted, within), (i, less, rw (span_is i earlier before, span_is j later at) shares))

  elements_share : (j : ℕ) (later : Element) → slice_get all j ≡ Some later → SharesEarlier (spans_in (tagged all)) j → SharesEarlierElement all j later
  elements_share j later at (inside, (i, less, shares)) =
      let earlier : Element = get_or all i later in
      let before : slice_get all i ≡ Some earlier = slice_get-get_or all i later (omega (arith, counted, slice_get_within all j later at)) in
      (at, (i, earlier, less, before, rw (span_is i earlier before, span_is j later at) at shares))

  -- the first that does has the least place
  pub least_sharing : Rising tag_of all → (found : Option ℕ) → IsFirstSharing (tagged all) found → IsLeastPlace (λ place. (j : ℕ) × (later : Element) × SharesEarlierElement all j later × (place ≡ later.described)) found
  least_sharing rising None none = λ place broken. let (j, later, shares, at) = broken in none j (spans_share j later shares)
  least_sharing rising (Some place) (j, (shares, least), at) = ((j, first, elements_share j first here shares, is), λ q broken. let (k, other, shared, same) = broken in let low = not_before k other shared in omega (arith, low, same))
    where
      within : j < length all
      within = omega (arith, shares.0, counted)

      first : Element
      first = get_or all j (record { described = 0; span = no_span })

      here : slice_get all j ≡ Some first
      here = slice_get-get_or all j (record { described = 0; span = no_span }) within

      is : place ≡ first.described
      is = same_Some place first.described (sym at ∙ (ap (λ ts. slice_get ts j) (tags_tagged all) ∙ (slice_get-map tag_of all j ∙ ap (option_map tag_of) here)))

      not_before : (k : ℕ) (other : Element) → SharesEarlierElement all k other → place ≤ other.described
      not_before k other shared = elim (cases_order j k) [
        | inl same ↦ let one = same_Some first other (sym here ∙ (ap (slice_get all) same ∙ shared.0)) in let tags = ap tag_of one in omega (arith, is)
        | inr (inl before) ↦ (let up = ordered_at (λ (a b : Element). a.described ≤ b.described) all other j k rising before (slice_get_within all k other shared.0) in
            let low = ap tag_of (get_or_from_slice_get all j first other here) in
            let high = ap tag_of (get_or_from_slice_get all k other other shared.0) in omega (arith, is))
        | inr (inr after) ↦ absurd (least k after (spans_share k other shared))
      ]
