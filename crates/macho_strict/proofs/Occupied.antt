-- Those spans of a list that have a place.
use Rattle.std.proofs.Common.{◌≡◌, ℕ, suc, zero, ◌<◌, ◌≤◌, max, min, Bool, true, false, All, List, [], ◌∷◌, ◌++◌, length, map, get_or, Option, sym, ap, ap₂, ◌∙◌, subst, arith, inl, inr, refl}
use Rattle.std.specs.List.{AllPairs, IsDistinct}
use Rattle.std.specs.List.Sorted.{IsNonDecreasingBy}
use Rattle.std.specs.Prelude.{nat_lt, IsPermutation}
use Rattle.std.proofs.lemmas.Bool.{cases_Bool, ltb-true, ltb-false}
use Rattle.std.proofs.lemmas.List.{append-nil, get_or_default, map_push}
use Rattle.std.proofs.lemmas.List.Elements.{filter-append, filter_passes}
use Rattle.std.proofs.lemmas.List.Kept.{AllPairs-filter}
use Rattle.std.proofs.lemmas.List.Sorted.{All-permutation, IsPermutation-sym, Contains-permutation}
use Rattle.std.proofs.lemmas.Map.Keys.{IsDistinct-IsPermutation, IsDistinct-from_apart, apart_from_distinct}
use Rattle.macho_rules.proofs.Searches.{unfiltered}
use Rattle.macho_fields.specs.FirstPlace.{IsLeastPlace}
use Rattle.macho_spans.specs.Overlap.{span_at, IsAscending, SharesEarlier}
use Rattle.macho_spans.specs.Span.{end_of}
use Rattle.macho_spans.specs.declared.span.Span.{Span}
use Rattle.macho_strict.specs.Passed.{occupied, CoverSame}
use Rattle.macho_strict.specs.Gaps.{IsStray}
use Rattle.macho_strict.specs.declared.elements.Element.{Element}
use Rattle.macho_strict.specs.declared.gaps.Wanted.{Wanted}
use Rattle.macho_strict.proofs.Passed.{no_span, among, free_among, least_same}

abbrev pub has_place : Span → Bool
has_place span = nat_lt 0 span.len

abbrev span_of : Element → Span
span_of element = element.span

-- a span that has a place is among them
one_down : (spans : List Span) (j : ℕ) → j < length spans → 0 < (span_at spans j).len → (m : ℕ) × (m < length (occupied spans)) × (span_at (occupied spans) m ≡ span_at spans j)
one_down [] j less filled = absurd (omega arith)
one_down (x ∷ xs) zero less filled = elim (cases_Bool (has_place x)) [
  | inl t ↦ rw t (0, omega arith, refl)
  | inr f ↦ let none = ltb-false 0 x.len f in absurd (omega (arith, none, filled))
]
one_down (x ∷ xs) (suc j) less filled =
    let (m, within, same) = one_down xs j (omega arith) filled in
    elim (cases_Bool (has_place x)) [ inl t ↦ rw t (suc m, omega arith, same) | inr f ↦ rw f (m, within, same) ]

-- and two in the same order
pair_down : (spans : List Span) (i j : ℕ) → i < j → j < length spans → 0 < (span_at spans i).len → 0 < (span_at spans j).len
    → (k : ℕ) × (m : ℕ) × (k < m) × (m < length (occupied spans)) × (span_at (occupied spans) k ≡ span_at spans i) × (span_at (occupied spans) m ≡ span_at spans j)
pair_down [] i j before less first second = absurd (omega arith)
pair_down (x ∷ xs) i zero before less first second = absurd (omega arith)
pair_down (x ∷ xs) zero (suc j) before less first second =
    let (m, within, same) = one_down xs j (omega arith) second in
    elim (cases_Bool (has_place x)) [
      | inl t ↦ rw t (0, suc m, omega arith, omega arith, refl, same)
      | inr f ↦ let none = ltb-false 0 x.len f in absurd (omega (arith, none, first))
    ]
pair_down (x ∷ xs) (suc i) (suc j) before less first second =
    let (k, m, under, within, same, other) = pair_down xs i j (omega arith) (omega arith) first second in
    elim (cases_Bool (has_place x)) [ inl t ↦ rw t (suc k, suc m, omega arith, omega arith, same, other) | inr f ↦ rw f (k, m, under, within, same, other) ]

-- where none of them shares a place with an earlier one, none of all does
pub none_shares : (spans : List Span) → ((j : ℕ) → ¬ SharesEarlier (occupied spans) j) → (j : ℕ) → ¬ SharesEarlier spans j
none_shares spans none j (less, (i, before, shares)) =
    let (k, m, under, within, same, other) = pair_down spans i j before less (omega (arith, shares)) (omega (arith, shares)) in
    none m (within, (k, under, rw (same, other) shares))

-- where those that have a place ascend, so do they without the others
abbrev IsBefore : Span → Span → Type 0
IsBefore a b = 0 < a.len → 0 < b.len → end_of a ≤ b.start

ascending_occupied : (spans : List Span) → IsAscending spans → IsAscending (occupied spans)
ascending_occupied spans up i j less filled_i filled_j = AllPairs-filter IsBefore has_place spans pairs i j no_span less (among (occupied spans) j filled_j) filled_i filled_j
  where
    pairs : AllPairs IsBefore spans
    pairs a b d before within filled_a filled_b =
        let same_a = get_or_default spans a d no_span (omega arith) in
        let same_b = get_or_default spans b d no_span within in
        let here = up a b before (omega (arith, ap (λ (s : Span). s.len) same_a, filled_a)) (omega (arith, ap (λ (s : Span). s.len) same_b, filled_b)) in
        omega (arith, here, ap end_of same_a, ap (λ (s : Span). s.start) same_b)

-- Those of them in another order

-- a test of whether two spans that have a place share one
abbrev pub share : Span → Span → Bool
share a b = nat_lt (max a.start b.start) (min (end_of a) (end_of b))

pub share_flips : (a b : Span) → share a b ≡ share b a
share_flips a b =
    let starts : max a.start b.start ≡ max b.start a.start = omega arith in
    let ends : min (end_of a) (end_of b) ≡ min (end_of b) (end_of a) = omega arith in
    ap₂ nat_lt starts ends

share_none : (a b : Span) → end_of a ≤ b.start → share a b ≡ false
share_none a b before = elim (cases_Bool (share a b)) [
  | inl t ↦ let some = ltb-true (max a.start b.start) (min (end_of a) (end_of b)) t in absurd (omega (arith, some))
  | inr f ↦ f
]

abbrev AreFilled : List Span → Type 0
AreFilled spans = All (λ span. has_place span ≡ true) spans

distinct_ascending : (spans : List Span) → AreFilled spans → IsAscending spans → IsDistinct share spans
distinct_ascending spans filled up = IsDistinct-from_apart share spans apart
  where
    apart : (i j : ℕ) (d : Span) → i < j → j < length spans → share (get_or spans i d) (get_or spans j d) ≡ false
    apart i j d less within =
        ap₂ share (get_or_default spans i d no_span (omega arith)) (get_or_default spans j d no_span within)
        ∙ share_none (span_at spans i) (span_at spans j) (up i j less (ltb-true 0 (span_at spans i).len (filled i no_span (omega arith))) (ltb-true 0 (span_at spans j).len (filled j no_span within)))

pub ascending_distinct : (spans : List Span) → IsNonDecreasingBy (λ span. span.start) spans → IsDistinct share spans → IsAscending spans
ascending_distinct spans rising distinct i j less filled_i filled_j =
    let within = among spans j filled_j in
    let apart = apart_from_distinct share spans i j no_span distinct less within in
    let most = ltb-false (max (span_at spans i).start (span_at spans j).start) (min (end_of (span_at spans i)) (end_of (span_at spans j))) apart in
    let low = rising i j no_span (omega arith) within in
    omega (arith, most, low)

distinct_apart : (spans : List Span) → IsDistinct share spans → (j : ℕ) → ¬ SharesEarlier spans j
distinct_apart spans distinct j (within, (i, less, (place, here, there))) =
    let apart = apart_from_distinct share spans i j no_span distinct less within in
    let most = ltb-false (max (span_at spans i).start (span_at spans j).start) (min (end_of (span_at spans i)) (end_of (span_at spans j))) apart in
    absurd (omega (arith, most, here, there))

module _ (spans sorted : List Span) (moved : IsPermutation (occupied spans) sorted) where
  -- where they ascend in that order, no two of all share a place
  pub apart_moved : IsAscending sorted → (j : ℕ) → ¬ SharesEarlier spans j
  apart_moved up =
      let filled : AreFilled sorted = All-permutation (λ span. has_place span ≡ true) (occupied spans) sorted moved (filter_passes has_place spans) in
      none_shares spans (distinct_apart (occupied spans) (IsDistinct-IsPermutation share share_flips sorted (occupied spans) (IsPermutation-sym (occupied spans) sorted moved) (distinct_ascending sorted filled up)))

  -- and they do in the order of their starts, where all ascend
  pub ascending_moved : IsNonDecreasingBy (λ span. span.start) sorted → IsAscending spans → IsAscending sorted
  ascending_moved rising up =
      ascending_distinct sorted rising (IsDistinct-IsPermutation share share_flips (occupied spans) sorted moved (distinct_ascending (occupied spans) (filter_passes has_place spans) (ascending_occupied spans up)))

-- they have the same places
pub cover_same : (spans : List Span) → CoverSame spans (occupied spans)
cover_same spans place = (
  λ free. free_among spans (occupied spans) place (λ x has. unfiltered has_place spans x has) free,
  λ free i held.
      let (m, within, same) = one_down spans i (among spans i (omega (arith, held.0, held.1))) (omega (arith, held.0, held.1)) in
      free m (rw same held),
)

-- so have spans in another order
pub cover_moved : (spans others : List Span) → IsPermutation spans others → CoverSame spans others
cover_moved spans others moved place = (
  λ free. free_among spans others place (λ x. Contains-permutation others spans x (IsPermutation-sym spans others moved)) free,
  λ free. free_among others spans place (λ x. Contains-permutation spans others x moved) free,
)

pub cover_trans : (a b c : List Span) → CoverSame a b → CoverSame b c → CoverSame a c
cover_trans a b c first second place = (λ free. (second place).0 ((first place).0 free), λ free. (first place).1 ((second place).1 free))

-- and those that have a place, in another order
pub cover_listed : (spans list others : List Span) → list ≡ occupied spans → IsPermutation list others → CoverSame spans others
cover_listed spans list others are moved = cover_trans spans list others (subst (CoverSame spans) (sym are) (cover_same spans)) (cover_moved list others moved)

-- the least place that was found between spans is the least of all that have the same places, whatever bytes they are
pub least_covered : (wanted : Wanted) (bytes own : List ℕ) (spans list sorted : List Span) (found : Option ℕ) → own ≡ bytes → list ≡ spans → CoverSame list sorted
    → IsLeastPlace (IsStray wanted own sorted) found → IsLeastPlace (IsStray wanted bytes spans) found
least_covered wanted bytes own spans list sorted found same are cover least =
    subst (λ (all : List Span). IsLeastPlace (IsStray wanted bytes all) found) are
    (subst (λ (bs : List ℕ). IsLeastPlace (IsStray wanted bs list) found) same
    (least_same (IsStray wanted own sorted) (IsStray wanted own list) (λ p is. (is.0, (cover p).1 is.1)) (λ p is. (is.0, (cover p).0 is.1)) found least))

-- One span more

pub occupied_more : (spans : List Span) (x : Span) → 0 < x.len → occupied (spans ++ x ∷ []) ≡ occupied spans ++ x ∷ []
occupied_more spans x filled = filter-append has_place spans (x ∷ []) ∙ ap (λ (rest : List Span). occupied spans ++ rest) last
  where
    last : occupied (x ∷ []) ≡ x ∷ []
    last = elim (cases_Bool (has_place x)) [ inl t ↦ rw t refl | inr f ↦ let none = ltb-false 0 x.len f in absurd (omega (arith, none)) ]

pub occupied_same : (spans : List Span) (x : Span) → x.len ≡ 0 → occupied (spans ++ x ∷ []) ≡ occupied spans
occupied_same spans x empty = filter-append has_place spans (x ∷ []) ∙ (ap (λ (rest : List Span). occupied spans ++ rest) last ∙ append-nil (occupied spans))
  where
    last : occupied (x ∷ []) ≡ []
    last = elim (cases_Bool (has_place x)) [ inl t ↦ let more = ltb-true 0 x.len t in absurd (omega (arith, more)) | inr f ↦ rw f refl ]

pub with_place : (elements : List Element) (x : Element) → 0 < x.span.len → occupied (map span_of (elements ++ x ∷ [])) ≡ occupied (map span_of elements) ++ x.span ∷ []
with_place elements x filled = ap occupied (map_push span_of elements x) ∙ occupied_more (map span_of elements) x.span filled

pub without_place : (elements : List Element) (x : Element) → x.span.len ≡ 0 → occupied (map span_of (elements ++ x ∷ [])) ≡ occupied (map span_of elements)
without_place elements x empty = ap occupied (map_push span_of elements x) ∙ occupied_same (map span_of elements) x.span empty
