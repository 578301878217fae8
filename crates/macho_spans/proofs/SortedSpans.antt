-- Sorted spans that share no place: what a search among them finds, and what an insertion leaves.
use Rattle.std.proofs.Common.{◌≡◌, ℕ, ◌+◌, ◌-◌, ◌/◌, ◌%◌, ◌^◌, ◌≤◌, ◌<◌, ◌⊎◌, List, length, get_or, take, drop, Contains, Option, None, Some, sym, ◌∙◌, ap, subst, inl, inr, arith}
use Rattle.std.specs.Prelude.{AllPairs, MatchOption}
use Rattle.std.specs.List.{insert}
use Rattle.std.proofs.Math.Nat.{mod-add-mod}
use Rattle.std.proofs.lemmas.Bool.{cases_lt}
use Rattle.std.proofs.lemmas.List.Edits.{length-insert, get_or-insert_below, get_or-insert_at, get_or-insert_above}
use Rattle.std.proofs.lemmas.List.Elements.{All-append, All-take, All-drop, All-cons, Contains-get_or}
use Rattle.macho_spans.specs.Span.{end_of, Holds, Shares}
use Rattle.macho_spans.specs.Spans.{IsPlaced, AreSorted, RoseBy, SharesWithOne, HoldsInOne, digits}
use Rattle.macho_spans.specs.SearchSteps.{StartBy}
use Rattle.macho_spans.specs.declared.span.Span.{Span}
use Rattle.macho_spans.proofs.Overlaps.{shares_both_ways}
use Rattle.macho_spans.proofs.Digits.{digits_half, digits_le, digits_within}

-- what holds at an index holds of one of the pairs
pub shares_at : (pairs : List (Span × ℕ)) (span : Span) (k : ℕ) (d : Span × ℕ) → k < length pairs → Shares (get_or pairs k d).0 span → SharesWithOne pairs span
shares_at pairs span k d within shares = let (i, less, at) = Contains-get_or pairs k d within in (i, get_or pairs k d, less, at, shares)

-- what holds of each pair of items in order holds with one more between those before and after it
all_pairs_insert : {X : Type 0} (R : X → X → Type 0) (xs : List X) (n : ℕ) (y : X) → n ≤ length xs → AllPairs R xs
    → ((k : ℕ) (d : X) → k < n → R (get_or xs k d) y) → ((k : ℕ) (d : X) → n ≤ k → k < length xs → R y (get_or xs k d)) → AllPairs R (insert xs n y)
all_pairs_insert {X} R xs n y among all before after i j d less within = let more = length-insert xs n y among in elim (cases_lt j n) [
  | inl low ↦ rw (below i (omega arith), below j low) (all i j d less (omega arith))
  | inr high ↦ elim (cases_lt n j) [
    | inr near ↦ let at : j ≡ n = omega arith in rw (below i (omega arith), here j at) (before i d (omega arith))
    | inl past ↦ elim (cases_lt i n) [
      | inl first ↦ rw (below i first, above j past) (all i (j - 1) d (omega arith) (omega arith))
      | inr rest ↦ elim (cases_lt n i) [
        | inr same ↦ let at : i ≡ n = omega arith in rw (here i at, above j past) (after (j - 1) d (omega arith) (omega arith))
        | inl later ↦ rw (above i later, above j past) (all (i - 1) (j - 1) d (omega arith) (omega arith))
      ]
    ]
  ]
]
  where
    below : (k : ℕ) → k < n → get_or (insert xs n y) k d ≡ get_or xs k d
    below k low = get_or-insert_below xs n y d k low among

    here : (k : ℕ) → k ≡ n → get_or (insert xs n y) k d ≡ y
    here k at = rw at (get_or-insert_at xs n y d among)

    above : (k : ℕ) → n < k → get_or (insert xs n y) k d ≡ get_or xs (k - 1) d
    above k past = subst (λ q. get_or (insert xs n y) q d ≡ get_or xs (k - 1) d) {x = k - 1 + 1} (omega arith) (get_or-insert_above xs n y d (k - 1) (omega arith) among)

abbrev IsPlacedPair : Span × ℕ → Type 0
IsPlacedPair pair = IsPlaced pair.0

module _ (pairs : List (Span × ℕ)) (sorted : AreSorted pairs) where
  -- a span ends before the ones after it start
  ends_before : (i j : ℕ) (d : Span × ℕ) → i < j → j < length pairs → end_of (get_or pairs i d).0 ≤ (get_or pairs j d).0.start
  ends_before i j d less within =
      let rises = sorted.rising i j d less within in
      let placed = sorted.placed j d within in
      elim (cases_lt (get_or pairs j d).0.start (end_of (get_or pairs i d).0)) [
        | inl inside ↦ absurd (sorted.apart i j d less within ((get_or pairs j d).0.start, (omega arith, inside), (omega arith, omega arith)))
        | inr ends ↦ ends
      ]

  -- a span starts by the start of itself and of each one after it
  starts_by : (i j : ℕ) (d : Span × ℕ) → i ≤ j → j < length pairs → (get_or pairs i d).0.start ≤ (get_or pairs j d).0.start
  starts_by i j d less within = elim (cases_lt i j) [
    | inl before ↦ let rises = sorted.rising i j d before within in omega arith
    | inr near ↦ let same : i ≡ j = omega arith in rw same (omega arith)
  ]

  module _ (place next : ℕ) (by : StartBy pairs place next) where
    -- the span that ends after the place, among those that start by it, is the last of them
    last_of : (k : ℕ) (d : Span × ℕ) → k < next → place < end_of (get_or pairs k d).0 → k ≡ next - 1
    last_of k d less ends = elim (cases_lt (k + 1) next) [
      | inl far ↦
          let among = by.among in
          let until = ends_before k (next - 1) d (omega arith) (omega arith) in
          let starts = by.before (next - 1) d (omega arith) in absurd (omega arith)
      | inr near ↦ omega arith
    ]

    pub holds_before : HoldsInOne pairs place → (0 < next) × ((d : Span × ℕ) × Holds (get_or pairs (next - 1) d).0 place)
    holds_before (k, x, within, same, holds) =
        let here : Holds (get_or pairs k x).0 place = subst (λ (pair : Span × ℕ). Holds pair.0 place) (sym same) holds in
        elim (cases_lt k next) [
          | inl less ↦ (omega arith, (x, subst (λ i. Holds (get_or pairs i x).0 place) (last_of k x less here.1) here))
          | inr later ↦ let past = by.after k x later within in absurd (omega (arith, here.0))
        ]

    -- the last span that starts by the place decides for all
    pub found_before : (answer : Option (Span × ℕ)) (last : ℕ) → next ≡ last + 1
        → ((d : Span × ℕ) → MatchOption answer (¬ Holds (get_or pairs last d).0 place) (λ pair. (pair ≡ get_or pairs last d) × Holds (get_or pairs last d).0 place))
        → MatchOption answer (¬ HoldsInOne pairs place) (λ pair. Contains pairs pair × Holds pair.0 place)
    found_before None last at tested = λ some.
        let holding = holds_before some in
        let d = holding.1.0 in
        tested d (subst (λ i. Holds (get_or pairs i d).0 place) (omega arith) holding.1.1)
    found_before (Some pair) last at tested =
        let among = by.among in
        let is = (tested pair).0 in
        ((last, omega arith, sym is), subst (λ (found : Span × ℕ). Holds found.0 place) (sym is) (tested pair).1)

  module _ (span : Span) (placed : IsPlaced span) (next : ℕ) (by : StartBy pairs span.start next) where
    -- a span that shares a place with one of the pairs shares one with a neighbor
    pub shares_beside : SharesWithOne pairs span
        → ((0 < next) × ((d : Span × ℕ) × Shares (get_or pairs (next - 1) d).0 span)) ⊎ ((next < length pairs) × ((d : Span × ℕ) × Shares (get_or pairs next d).0 span))
    shares_beside (k, x, within, same, shares) =
        let here : Shares (get_or pairs k x).0 span = subst (λ (pair : Span × ℕ). Shares pair.0 span) (sym same) shares in
        elim (cases_lt k next) [
          | inl less ↦
              let last = last_of span.start next by k x less (omega (arith, here.1.1, here.2.0)) in
              inl (omega arith, (x, subst (λ i. Shares (get_or pairs i x).0 span) last here))
          | inr later ↦ elim (cases_lt next k) [
            | inl far ↦
                let until = ends_before next k x far within in
                let starts = by.after next x (omega arith) (omega arith) in
                let some = (sorted.placed next x (omega arith)).0 in
                inr (omega arith, (x, ((get_or pairs next x).0.start, (omega arith, omega arith), (omega arith, omega (arith, here.1.1, here.2.1)))))
            | inr near ↦ let at : k ≡ next = omega arith in inr (omega arith, (x, subst (λ i. Shares (get_or pairs i x).0 span) at here))
          ]
        ]

  module _ (span : Span) (tag : ℕ) (placed : IsPlaced span) (next : ℕ) (by : StartBy pairs span.start next) (none : ¬ SharesWithOne pairs span) where
    -- a span that shares no place with the pairs is put before the first that starts after it
    pub sorted_more : AreSorted (insert pairs next (span, tag))
    sorted_more = record {
      placed = All-append IsPlacedPair (take next pairs) _ (All-take IsPlacedPair next pairs sorted.placed)
          (All-cons IsPlacedPair (span, tag) (drop next pairs) placed (All-drop IsPlacedPair next pairs sorted.placed));
      rising = all_pairs_insert (λ pair later. pair.0.start < later.0.start) pairs next (span, tag) by.among sorted.rising starts_before by.after;
      apart = all_pairs_insert (λ pair later. ¬ Shares pair.0 later.0) pairs next (span, tag) by.among sorted.apart apart_before apart_after;
    }
      where
        apart_before : (k : ℕ) (d : Span × ℕ) → k < next → ¬ Shares (get_or pairs k d).0 span
        apart_before k d less shares = let among = by.among in none (shares_at pairs span k d (omega arith) shares)

        apart_after : (k : ℕ) (d : Span × ℕ) → next ≤ k → k < length pairs → ¬ Shares span (get_or pairs k d).0
        apart_after k d later within shares = none (shares_at pairs span k d within (shares_both_ways span (get_or pairs k d).0 shares))

        starts_before : (k : ℕ) (d : Span × ℕ) → k < next → (get_or pairs k d).0.start < span.start
        starts_before k d less = elim (cases_lt (get_or pairs k d).0.start span.start) [
          | inl before ↦ before
          | inr here ↦
              let among = by.among in
              let starts = by.before k d less in
              let some = (sorted.placed k d (omega arith)).0 in
              let first = placed.0 in absurd (apart_before k d less (span.start, (starts, omega arith), (omega arith, omega arith)))
        ]

-- the search has reached these bounds, in this many probes: the spans below low start by the place,
-- and those from high on after it
pub record IsHalved (pairs : List (Span × ℕ)) (place low high probes : ℕ) : Type 0 where
  pub order : low ≤ high
  pub among : high ≤ length pairs
  pub before : (k : ℕ) (d : Span × ℕ) → k < low → (get_or pairs k d).0.start ≤ place
  pub after : (k : ℕ) (d : Span × ℕ) → high ≤ k → k < length pairs → place < (get_or pairs k d).0.start
  pub some : probes ≡ 0 → high - low ≡ length pairs
  pub most : probes + digits (high - low) ≤ digits (length pairs)

module _ (pairs : List (Span × ℕ)) (sorted : AreSorted pairs) (place low high probes : ℕ) (left : low < high) (halved : IsHalved pairs place low high probes) where
  -- a probe more, and at most half of the spans are left
  counted : (rest : ℕ) → rest ≤ (high - low) / 2 → probes + 1 + digits rest ≤ digits (length pairs)
  counted rest less =
      let most = halved.most in
      let step = digits_half (high - low) (omega arith) in
      let fewer = digits_le rest ((high - low) / 2) less in omega arith

  module _ (middle : ℕ) (from : low ≤ middle) (below : middle < high) where
    pub half_up : high - (middle + 1) ≤ (high - low) / 2 → ((d : Span × ℕ) → (get_or pairs middle d).0.start ≤ place) → IsHalved pairs place (middle + 1) high (probes + 1)
    half_up rest starts = record {
      order = omega arith;
      among = halved.among;
      before = λ k d less. let among = halved.among in let risen = starts_by pairs sorted k middle d (omega arith) (omega arith) in let here = starts d in omega arith;
      after = halved.after;
      some = λ none. absurd (omega arith);
      most = counted (high - (middle + 1)) rest;
    }

    pub half_down : middle - low ≤ (high - low) / 2 → ((d : Span × ℕ) → place < (get_or pairs middle d).0.start) → IsHalved pairs place low middle (probes + 1)
    half_down rest starts = record {
      order = from;
      among = let among = halved.among in omega arith;
      before = halved.before;
      after = λ k d later within. let risen = starts_by pairs sorted middle k d later within in let here = starts d in omega arith;
      some = λ none. absurd (omega arith);
      most = counted (middle - low) rest;
    }

  -- the probes are few
  pub few_probes : length pairs < 2 ^ 64 → probes < 2 ^ 32
  few_probes short =
      let most = halved.most in
      let some = digits_half (high - low) (omega arith) in
      let all = digits_within (length pairs) 64 short in omega arith

-- a count that rose by some, and then by one, rose by one more
pub rose_on : (before some between after : ℕ) → RoseBy before some between → RoseBy between 1 after → RoseBy before (some + 1) after
rose_on before some between after first then =
    let sum : before + some + 1 ≡ before + (some + 1) = omega arith in
    then ∙ (sym (mod-add-mod between (2 ^ 64) 1) ∙ (ap (λ n. (n + 1) % 2 ^ 64) first ∙ (mod-add-mod (before + some) (2 ^ 64) 1 ∙ ap (λ n. n % 2 ^ 64) sum)))
