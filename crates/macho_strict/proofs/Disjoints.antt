-- Spans that share no place.
use Rattle.std.proofs.Common.{◌≡◌, ℕ, ◌<◌, Bool, true, false, max, min, List, length, map, filter, get_or, Contains, sym, ◌∙◌, subst, arith, inl, inr}
use Rattle.std.specs.List.{AllPairs, IsDistinct}
use Rattle.std.specs.List.Sorted.{IsNonDecreasingBy}
use Rattle.std.specs.Prelude.{IsPermutation}
use Rattle.std.proofs.lemmas.Bool.{true≢false, cases_Bool, ltb-true}
use Rattle.std.proofs.lemmas.List.{get_or_default, get_or-map, length-map}
use Rattle.std.proofs.lemmas.List.Elements.{filter_passes}
use Rattle.std.proofs.lemmas.List.Kept.{AllPairs-filter}
use Rattle.std.proofs.lemmas.List.Sorted.{All-permutation}
use Rattle.std.proofs.lemmas.Map.Keys.{IsDistinct-IsPermutation, IsDistinct-from_apart}
use Rattle.macho_spans.specs.Overlap.{span_at, SharesEarlier}
use Rattle.macho_spans.specs.Span.{end_of, Holds, Shares}
use Rattle.macho_spans.specs.declared.span.Span.{Span}
use Rattle.macho_strict.specs.Passed.{occupied}
use Rattle.macho_strict.specs.Disjoint.{AreDisjoint}
use Rattle.macho_strict.specs.Gaps.{IsFree, IsUnpadded}
use Rattle.macho_strict.specs.Nops.{is_nop}
use Rattle.macho_strict.proofs.Occupied.{has_place, share, share_flips, ascending_distinct}
use Rattle.macho_strict.proofs.Passed.{no_span}

-- a place that one of them holds

pub held_not_free : (spans : List Span) (span : Span) (p : ℕ) → Contains spans span → Holds span p → ¬ IsFree spans p
held_not_free spans span p (k, less, at) held free = free k (subst (λ (s : Span). Holds s p) (sym (get_or_default spans k no_span span less ∙ at)) held)

-- a NOP of the code is padding
pub padded : (cpu : ℕ) (code : List Span) (bytes : List ℕ) (p : ℕ) (part : Span) → Contains code part → Holds part p → is_nop cpu bytes p ≡ true → ¬ IsUnpadded cpu code bytes p
padded cpu code bytes p part has held nop (is, either) = elim either [ inl other ↦ true≢false (sym nop ∙ other) | inr free ↦ held_not_free code part p has held free ]

-- Where no two share a place

pairs_apart : (spans : List Span) → ((j : ℕ) → ¬ SharesEarlier spans j) → AllPairs (λ a b. ¬ Shares a b) spans
pairs_apart spans none i j d less within shares =
    let first = get_or_default spans i d no_span (omega arith) in
    let second = get_or_default spans j d no_span within in
    none j (within, (i, less, subst (λ (s : Span). Shares s (span_at spans j)) first (subst (λ (s : Span). Shares (get_or spans i d) s) second shares)))

share_not : (a b : Span) → ¬ Shares a b → share a b ≡ false
share_not a b apart = elim (cases_Bool (share a b)) [
  | inl t ↦ let some = ltb-true (max a.start b.start) (min (end_of a) (end_of b)) t in absurd (apart (max a.start b.start, (omega (arith, some), omega (arith, some)), (omega (arith, some), omega (arith, some))))
  | inr f ↦ f
]

distinct_apart : (spans : List Span) → AllPairs (λ a b. ¬ Shares a b) spans → IsDistinct share spans
distinct_apart spans apart = IsDistinct-from_apart share spans (λ i j d less within. share_not (get_or spans i d) (get_or spans j d) (apart i j d less within))

-- those that have a place are disjoint in the order of their starts
pub disjoint_sorted : (spans sorted : List Span) → IsPermutation (occupied spans) sorted → IsNonDecreasingBy (λ span. span.start) sorted → ((j : ℕ) → ¬ SharesEarlier spans j) → AreDisjoint sorted
disjoint_sorted spans sorted moved rising none i j less within =
    let apart = AllPairs-filter (λ a b. ¬ Shares a b) has_place spans (pairs_apart spans none) in
    let distinct = IsDistinct-IsPermutation share share_flips (occupied spans) sorted moved (distinct_apart (occupied spans) apart) in
    let filled = All-permutation (λ span. has_place span ≡ true) (occupied spans) sorted moved (filter_passes has_place spans) in
    ascending_distinct sorted rising distinct i j less (ltb-true 0 (span_at sorted i).len (filled i no_span (omega arith))) (ltb-true 0 (span_at sorted j).len (filled j no_span within))

-- and no two that pass a test share one
pub none_share_filtered : (part : ℕ → Span) (test : ℕ → Bool) (items : List ℕ) → ((j : ℕ) → ¬ SharesEarlier (map part items) j) → (j : ℕ) → ¬ SharesEarlier (map part (filter test items)) j
none_share_filtered part test items none j (within, (i, less, shares)) =
    let inside : j < length (filter test items) = omega (arith, within, length-map (filter test items) part) in
    AllPairs-filter (λ a b. ¬ Shares (part a) (part b)) test items pairs i j 0 less inside
    (subst (λ (s : Span). Shares s (part (get_or (filter test items) j 0))) (get_or-map part (filter test items) i 0 no_span (omega arith))
    (subst (λ (s : Span). Shares (span_at (map part (filter test items)) i) s) (get_or-map part (filter test items) j 0 no_span inside) shares))
  where
    pairs : AllPairs (λ a b. ¬ Shares (part a) (part b)) items
    pairs a b d before below both =
        let here : b < length (map part items) = omega (arith, below, length-map items part) in
        none b (
          here,
          (
            a,
            before,
            subst (λ (s : Span). Shares s (span_at (map part items) b)) (sym (get_or-map part items a d no_span (omega arith)))
                (subst (λ (s : Span). Shares (part (get_or items a d)) s) (sym (get_or-map part items b d no_span below)) both),
          ),
        )
