-- Spans that share a place, in the order in which they came and in the order of their starts.
use Rattle.std.proofs.Common.{◌≡◌, ℕ, ◌+◌, ◌<◌, ◌≤◌, ◌⊎◌, false, eqb, List, length, map, get_or, ◌≢◌, sym, ap, ◌∙◌, inl, inr, subst, arith, Contains}
use Rattle.std.specs.Prelude.{IsPermutation}
use Rattle.std.specs.List.{IsDistinct}
use Rattle.std.proofs.lemmas.Bool.{cases_lt}
use Rattle.std.proofs.lemmas.Bool.Decides.{nat_tests}
use Rattle.std.proofs.lemmas.List.{get_or_default, get_or-map, length-map}
use Rattle.std.proofs.lemmas.List.Sorted.{IsPermutation-sym, IsPermutation-map, Contains-permutation, length_permutation}
use Rattle.std.proofs.lemmas.Map.Keys.{IsDistinct-IsPermutation, IsDistinct-from_apart, apart_from_distinct}
use Rattle.macho_spans.specs.Overlap.{SharesEarlier, IsLeastSharing, span_at, AreNumbered, item_at}
use Rattle.macho_spans.specs.SearchSteps.{PairBelow}
use Rattle.macho_spans.specs.Span.{Shares}
use Rattle.macho_spans.specs.declared.span.Span.{Span}
use Rattle.macho_spans.specs.declared.overlap.Numbered.{Numbered}

abbrev pub span_of : Numbered → Span
span_of item = item.span

abbrev index_of : Numbered → ℕ
index_of item = item.index

abbrev pub no_span : Span
no_span = record { start = 0; len = 0 }

abbrev pub no_item : Numbered
no_item = record { span = no_span; index = 0 }

pub shares_both_ways : (a b : Span) → Shares a b → Shares b a
shares_both_ways a b (place, here, there) = (place, there, here)

pub flips : (x y : ℕ) → eqb x y ≡ eqb y x
flips x y = grind (arith, nat_tests)

-- the items are in the order in which they came: indices rise by one
module _ (items : List Numbered) (numbered : AreNumbered items) where
  indices_apart : (i j : ℕ) (d : ℕ) → i < j → j < length (map index_of items) → eqb (get_or (map index_of items) i d) (get_or (map index_of items) j d) ≡ false
  indices_apart i j d less below =
      let within : j < length items = omega (arith, length-map items index_of) in
      let at_i : get_or (map index_of items) i d ≡ i = get_or-map index_of items i no_item d (omega arith) ∙ numbered i (omega arith) in
      let at_j : get_or (map index_of items) j d ≡ j = get_or-map index_of items j no_item d within ∙ numbered j within in
      rw (at_i, at_j) (grind (arith, nat_tests))

  indices_distinct : IsDistinct eqb (map index_of items)
  indices_distinct = IsDistinct-from_apart eqb (map index_of items) indices_apart

-- the items stand in another order
module _ (came items : List Numbered) (numbered : AreNumbered came) (moved : IsPermutation came items) where
  abbrev spans : List Span
  spans = map span_of came

  span_is : (i : ℕ) → i < length came → span_at spans i ≡ (item_at came i).span
  span_is i less = get_or-map span_of came i no_item no_span less

  -- where an item came
  placed : (p : ℕ) → p < length items → (i : ℕ) × (i < length came) × (item_at came i ≡ item_at items p)
  placed p below =
      let here : Contains items (item_at items p) = (p, below, get_or_default items p _ no_item below) in
      let back = Contains-permutation items came (item_at items p) (IsPermutation-sym came items moved) here in
      (back.0, back.1, get_or_default came back.0 no_item _ back.1 ∙ back.2)

  -- where an item stands now
  found : (i : ℕ) → i < length came → (p : ℕ) × (p < length items) × (item_at items p ≡ item_at came i)
  found i below =
      let here : Contains came (item_at came i) = (i, below, get_or_default came i _ no_item below) in
      let there = Contains-permutation came items (item_at came i) moved here in
      (there.0, there.1, get_or_default items there.0 no_item _ there.1 ∙ there.2)

  -- no two items have one index
  differ : (p q : ℕ) → p < q → q < length items → eqb (item_at items p).index (item_at items q).index ≡ false
  differ p q less below =
      let d = IsDistinct-IsPermutation eqb flips _ _ (IsPermutation-map index_of came items moved) (indices_distinct came numbered) in
      let e : eqb (get_or (map index_of items) p 0) (get_or (map index_of items) q 0) ≡ false =
      apart_from_distinct eqb _ p q 0 d less (omega (arith, length-map items index_of)) in
      rw (← get_or-map index_of items p no_item 0 (omega arith), ← get_or-map index_of items q no_item 0 below) e

  pub pair_from_shares : (count j : ℕ) → j < count → SharesEarlier spans j → PairBelow items (length items) count
  pair_from_shares count j below (inside, (i, less, shares)) = by (cases_lt p.0 q.0)
    where
      within : j < length came
      within = omega (arith, length-map came span_of)

      p : (p : ℕ) × (p < length items) × (item_at items p ≡ item_at came i)
      p = found i (omega (arith, within))

      q : (p : ℕ) × (p < length items) × (item_at items p ≡ item_at came j)
      q = found j within

      index_p : (item_at items p.0).index ≡ i
      index_p = ap index_of p.2 ∙ numbered i (omega (arith, within))

      index_q : (item_at items q.0).index ≡ j
      index_q = ap index_of q.2 ∙ numbered j within

      both : Shares (item_at items p.0).span (item_at items q.0).span
      both = rw (p.2, q.2, ← span_is i (omega (arith, within)), ← span_is j within) shares

      other : p.0 ≢ q.0
      other same = absurd (omega (arith, index_p, index_q, ap (λ k. (item_at items k).index) same))

      by : (p.0 < q.0) ⊎ (q.0 ≤ p.0) → PairBelow items (length items) count
      by (inl before) = (q.0, p.0, before, q.1, omega (arith, index_p), omega (arith, index_q), both)
      by (inr behind) = (p.0, q.0, omega (arith, other), p.1, omega (arith, index_q), omega (arith, index_p), shares_both_ways _ _ both)

  pub shares_from_pair : (count : ℕ) → PairBelow items (length items) count → (j : ℕ) × (j < count) × SharesEarlier spans j
  shares_from_pair count (q, p, less, below, in_p, in_q, shares) = by (cases_lt i.0 j.0)
    where
      i : (i : ℕ) × (i < length came) × (item_at came i ≡ item_at items p)
      i = placed p (omega arith)

      j : (i : ℕ) × (i < length came) × (item_at came i ≡ item_at items q)
      j = placed q below

      index_p : (item_at items p).index ≡ i.0
      index_p = sym (ap index_of i.2) ∙ numbered i.0 i.1

      index_q : (item_at items q).index ≡ j.0
      index_q = sym (ap index_of j.2) ∙ numbered j.0 j.1

      both : Shares (span_at spans i.0) (span_at spans j.0)
      both = rw (span_is i.0 i.1, span_is j.0 j.1, i.2, j.2) shares

      other : i.0 ≢ j.0
      other same = let apart = differ p q less below in grind (arith, nat_tests, index_p, index_q)

      by : (i.0 < j.0) ⊎ (j.0 ≤ i.0) → (j : ℕ) × (j < count) × SharesEarlier spans j
      by (inl before) = (j.0, omega (arith, index_q), (omega (arith, j.1, length-map came span_of), (i.0, before, both)))
      by (inr behind) = (i.0, omega (arith, index_p), (omega (arith, i.1, length-map came span_of), (j.0, omega (arith, other), shares_both_ways _ _ both)))

  -- the greatest count below which nothing is shared is the index of the first span that shares
  pub least_from_pairs : (count : ℕ) → PairBelow items (length items) (count + 1) → ¬ PairBelow items (length items) count → IsLeastSharing spans count
  least_from_pairs count share apart = (subst (SharesEarlier spans) same here.2, λ k less shares. apart (pair_from_shares count k less shares))
    where
      here : (j : ℕ) × (j < count + 1) × SharesEarlier spans j
      here = shares_from_pair (count + 1) share

      most : ¬ (here.0 < count)
      most less = apart (pair_from_shares count here.0 less here.2)

      same : here.0 ≡ count
      same = omega (arith, most, here.1)

  -- where no two items share, no span shares with an earlier one
  pub none_from_pairs : ¬ PairBelow items (length items) (length items) → (j : ℕ) → ¬ SharesEarlier spans j
  none_from_pairs none j shares =
      none (pair_from_shares (length items) j (omega (arith, shares.0, length-map came span_of, length_permutation came items moved)) shares)
