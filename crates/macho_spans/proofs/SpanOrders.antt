-- One span more, in a list of spans that are in some order.
use Rattle.std.proofs.Common.{◌≡◌, ℕ, ◌≤◌, ◌<◌, ◌⊎◌, List, [], ◌∷◌, ◌++◌, length, get_or, Some, slice_get, sym, ap, ◌∙◌, subst, arith, inl, inr, length-append}
use Rattle.std.proofs.Math.ListN.{get_or-append}
use Rattle.std.proofs.Math.Seq.{get_or-append_seam, take-length}
use Rattle.std.proofs.lemmas.Bool.{cases_lt, cases_eq}
use Rattle.std.proofs.lemmas.List.{get_or_past, take-append-le}
use Rattle.std.proofs.lemmas.Option.{slice_get-get_or, slice_get_within, get_or_from_slice_get}
use Rattle.macho_spans.specs.Overlap.{SharesEarlier, IsLeastSharing, IsAscending, IsDescending, SharesWithNeighbour, AreMixed, span_at}
use Rattle.macho_spans.specs.Span.{end_of, Shares}
use Rattle.macho_spans.specs.SpanOrder.{RunsTo, Ascends, Descends, IsTrend}
use Rattle.macho_spans.specs.declared.span.Span.{Span}
use Rattle.macho_spans.specs.declared.span_order.Trend.{Trend}
use Rattle.macho_spans.specs.declared.span_order.Trend.TheVariants as trend

abbrev IsFilled : List Span → ℕ → Type 0
IsFilled spans k = 0 < (span_at spans k).len

-- no two spans that ascend, or descend, share a place
pub ascending_apart : (spans : List Span) → IsAscending spans → (j : ℕ) → ¬ SharesEarlier spans j
ascending_apart spans up j (within, (i, less, (place, (first, inside), (second, under)))) =
    let after : end_of (span_at spans i) ≤ (span_at spans j).start = up i j less (omega arith) (omega arith) in omega arith

pub descending_apart : (spans : List Span) → IsDescending spans → (j : ℕ) → ¬ SharesEarlier spans j
descending_apart spans down j (within, (i, less, (place, (first, inside), (second, under)))) =
    let before : end_of (span_at spans j) ≤ (span_at spans i).start = down i j less (omega arith) (omega arith) in omega arith

module _ (spans : List Span) (x : Span) where
  abbrev more : List Span
  more = spans ++ x ∷ []

  at_old : (k : ℕ) → k < length spans → span_at more k ≡ span_at spans k
  at_old k less = get_or-append spans (x ∷ []) _ k less

  at_last : span_at more (length spans) ≡ x
  at_last = get_or-append_seam spans x [] _

  -- a span that is not empty is an old one, or the last
  which : (k : ℕ) → IsFilled more k → ((k < length spans) × (span_at more k ≡ span_at spans k)) ⊎ ((k ≡ length spans) × (span_at more k ≡ x))
  which k filled = elim (cases_lt k (length spans)) [
    | inl less ↦ inl (less, at_old k less)
    | inr most ↦
        elim (cases_eq k (length spans)) [
          | inl same ↦ inr (same, ap (span_at more) same ∙ at_last)
          | inr other ↦
              let past : span_at more k ≡ record { start = 0; len = 0 } = get_or_past more k _ (omega (arith, length-append spans (x ∷ []))) in
              absurd (omega (arith, ap (λ s. s.len) past, filled))
        ]
  ]

  old_filled : (k : ℕ) → IsFilled spans k → (k < length spans) × IsFilled more k
  old_filled k filled = elim (cases_lt k (length spans)) [
    | inl less ↦ (less, omega (arith, ap (λ s. s.len) (at_old k less), filled))
    | inr past ↦ let none : span_at spans k ≡ record { start = 0; len = 0 } = get_or_past spans k _ past in absurd (omega (arith, ap (λ s. s.len) none, filled))
  ]

  -- what each old span has that is not empty, and the last one, each has
  each_more : (Q : Span → Type 0) → ((i : ℕ) → IsFilled spans i → Q (span_at spans i)) → Q x → (i : ℕ) → IsFilled more i → Q (span_at more i)
  each_more Q old last i filled = elim (which i filled) [
    | inl (less, same) ↦ subst Q (sym same) (old i (omega (arith, ap (λ s. s.len) same, filled)))
    | inr (here, same) ↦ subst Q (sym same) last
  ]

  -- A relation of each span that is not empty to each later one
  module _ (R : Span → Span → Type 0) where
    abbrev EachPair : List Span → Type 0
    EachPair all = (i j : ℕ) → i < j → IsFilled all i → IsFilled all j → R (span_at all i) (span_at all j)

    pairs_more : EachPair spans → (0 < x.len → (i : ℕ) → IsFilled spans i → R (span_at spans i) x) → EachPair more
    pairs_more old last i j less filled_i filled_j = elim (which j filled_j) [
      | inl (under, same) ↦
          let one = at_old i (omega arith) in
          subst (λ a. R a (span_at more j)) (sym one) (subst (R (span_at spans i)) (sym same) (old i j less (omega (arith, ap (λ s. s.len) one, filled_i)) (omega (arith, ap (λ s. s.len) same, filled_j))))
      | inr (here, same) ↦
          let one = at_old i (omega arith) in
          subst (λ a. R a (span_at more j)) (sym one)
          (subst (R (span_at spans i)) (sym same) (last (omega (arith, ap (λ s. s.len) same, filled_j)) i (omega (arith, ap (λ s. s.len) one, filled_i))))
    ]

    pairs_less : EachPair more → EachPair spans
    pairs_less all i j less filled_i filled_j =
        let (under_i, in_i) = old_filled i filled_i in
        let (under_j, in_j) = old_filled j filled_j in
        subst (λ a. R a (span_at spans j)) (at_old i under_i) (subst (R (span_at more i)) (at_old j under_j) (all i j less in_i in_j))

    pairs_last : EachPair more → 0 < x.len → (i : ℕ) → IsFilled spans i → R (span_at spans i) x
    pairs_last all filled i filled_i =
        let (under, in_i) = old_filled i filled_i in
        subst (λ a. R a x) (at_old i under) (subst (R (span_at more i)) at_last (all i (length spans) under in_i (omega (arith, ap (λ s. s.len) at_last, filled))))

  abbrev Below : Span → Span → Type 0
  Below a b = end_of a ≤ b.start

  abbrev Above : Span → Span → Type 0
  Above a b = end_of b ≤ a.start

  -- the last reaches as far up, or down
  abbrev IsUpTo : Span → Span → Type 0
  IsUpTo a b = end_of a ≤ end_of b

  abbrev IsDownTo : Span → Span → Type 0
  IsDownTo a b = b.start ≤ a.start

  -- one more that is not empty, before which each is, and which reaches as far
  runs_on : (R Q : Span → Span → Type 0) → 0 < x.len → Q x x → EachPair R spans → ((i : ℕ) → IsFilled spans i → R (span_at spans i) x × Q (span_at spans i) x) → RunsTo R Q more x
  runs_on R Q filled end each to_last = record {
    each = pairs_more R each (λ some i one. (to_last i one).0);
    among = (length spans, at_last);
    filled = filled;
    edge = each_more (λ s. Q s x) (λ i one. (to_last i one).1) end;
  }

  -- The first span that is not empty
  module _ (none : (i : ℕ) → ¬ IsFilled spans i) (filled : 0 < x.len) where
    pub first_alone : Ascends more x × Descends more x
    first_alone = (
      runs_on Below IsUpTo filled (omega arith) (λ i j less one other. absurd (none i one)) (λ i one. absurd (none i one)),
      runs_on Above IsDownTo filled (omega arith) (λ i j less one other. absurd (none i one)) (λ i one. absurd (none i one)),
    )

  -- What was found of the old spans holds of all
  old_neighbour : (j : ℕ) → j < length spans → SharesWithNeighbour more j → SharesWithNeighbour spans j
  old_neighbour j within (under, (i, less, shares, between)) = (
    within,
    (
      i,
      less,
      subst (λ a. Shares a (span_at spans j)) (at_old i (omega arith)) (subst (Shares (span_at more i)) (at_old j within) shares),
      λ k after before filled. between k after before (old_filled k filled).1,
    ),
  )

  still_mixed : (n : ℕ) → AreMixed spans n → AreMixed more n
  still_mixed n mixed = record {
    among = let among = mixed.among in omega (arith, length-append spans (x ∷ []));
    up = subst (λ first. ¬ IsAscending first) (sym (take-append-le n spans (x ∷ []) mixed.among)) mixed.up;
    down = subst (λ first. ¬ IsDescending first) (sym (take-append-le n spans (x ∷ []) mixed.among)) mixed.down;
    apart = λ j less shares. mixed.apart j less (old_neighbour j (let among = mixed.among in omega arith) shares);
  }

  pub still_unordered : (¬ IsAscending spans) × (¬ IsDescending spans) × ((n : ℕ) × AreMixed spans n) → (¬ IsAscending more) × (¬ IsDescending more) × ((n : ℕ) × AreMixed more n)
  still_unordered (up, down, (n, mixed)) = (λ all. up (pairs_less Below all), λ all. down (pairs_less Above all), (n, still_mixed n mixed))

  old_shares : (k : ℕ) → k < length spans → SharesEarlier more k → SharesEarlier spans k
  old_shares k within (under, (i, less, shares)) =
      (within, (i, less, subst (λ a. Shares a (span_at spans k)) (at_old i (omega arith)) (subst (Shares (span_at more i)) (at_old k within) shares)))

  now_shares : (k : ℕ) → SharesEarlier spans k → SharesEarlier more k
  now_shares k (within, (i, less, shares)) =
      (omega (arith, length-append spans (x ∷ [])), (i, less, subst (λ a. Shares a (span_at more k)) (sym (at_old i (omega arith))) (subst (Shares (span_at spans i)) (sym (at_old k within)) shares)))

  still_least : (j : ℕ) → IsLeastSharing spans j → IsLeastSharing more j
  still_least j (shares, least) = (now_shares j shares, λ k less earlier. least k less (old_shares k (let within = shares.0 in omega arith) earlier))

  -- where the old ones share no place and the last shares none with its neighbour, nothing is shared by neighbours
  now_mixed : ¬ IsAscending more → ¬ IsDescending more → ((k : ℕ) → ¬ SharesEarlier spans k) → ¬ SharesWithNeighbour more (length spans) → (n : ℕ) × AreMixed more n
  now_mixed up down old last = (
    length more,
    record {
      among = omega arith;
      up = subst (λ all. ¬ IsAscending all) (sym (take-length more)) up;
      down = subst (λ all. ¬ IsDescending all) (sym (take-length more)) down;
      apart = λ j less shares. elim (cases_lt j (length spans)) [
        | inl before ↦ let (within, (i, first, both, between)) = old_neighbour j before shares in old j (within, (i, first, both))
        | inr past ↦ last (subst (SharesWithNeighbour more) {y = length spans} (omega (arith, length-append spans (x ∷ []), less, past)) shares)
      ];
    },
  )

  -- the neighbour of the last span is the old one after which all are empty
  at_neighbour : (last : Span) → 0 < last.len → (j : ℕ) → span_at spans j ≡ last → ((i : ℕ) → IsFilled spans i → ¬ (j < i)) → SharesWithNeighbour more (length spans) → Shares last x
  at_neighbour last some j same rest (under, (i, less, shares, between)) = elim (cases_lt i j) [
    | inl before ↦ absurd (between j before there.0 there.1)
    | inr past ↦ let here : i ≡ j = omega (arith, past, rest i filled_i) in subst (λ a. Shares a x) (ap (span_at spans) here ∙ same) both
  ]
    where
      there : (j < length spans) × IsFilled more j
      there = old_filled j (omega (arith, ap (λ s. s.len) same, some))

      both : Shares (span_at spans i) x
      both = subst (λ a. Shares a x) (at_old i less) (subst (Shares (span_at more i)) at_last shares)

      filled_i : IsFilled spans i
      filled_i = let (place, (from, to), other) = both in omega (arith, from, to)

  -- so it is the last one, where the spans run to it
  shares_last : (R Q : Span → Span → Type 0) (last : Span) → RunsTo R Q spans last → ((s : Span) → 0 < s.len → R last s → ¬ Q s last) → SharesWithNeighbour more (length spans) → Shares last x
  shares_last R Q last run past = at_neighbour last run.filled run.among.0 run.among.1 none_after
    where
      none_after : (i : ℕ) → IsFilled spans i → ¬ (run.among.0 < i)
      none_after i filled less =
          let (j, same) = run.among in
          let at : IsFilled spans j = omega (arith, ap (λ s. s.len) same, run.filled) in
          past (span_at spans i) filled (subst (λ a. R a (span_at spans i)) same (run.each j i less at filled)) (run.edge i filled)

  -- One more after others, whose last span that is not empty is known
  module _ (last : Span) (filled : 0 < x.len) where
    filled_last : 0 < last.len → (j : ℕ) × (span_at spans j ≡ last) → (j : ℕ) × (span_at spans j ≡ last) × IsFilled spans j
    filled_last some (j, same) = (j, same, omega (arith, ap (λ s. s.len) same, some))

    not_descending : 0 < last.len → (j : ℕ) × (span_at spans j ≡ last) → end_of last ≤ x.start → ¬ IsDescending more
    not_descending some among above down =
        let (j, same, at) = filled_last some among in
        let under : end_of x ≤ (span_at spans j).start = pairs_last Above down filled j at in
        omega (arith, under, above, ap (λ s. s.start) same, some)

    not_ascending : 0 < last.len → (j : ℕ) × (span_at spans j ≡ last) → end_of x ≤ last.start → ¬ IsAscending more
    not_ascending some among below up =
        let (j, same, at) = filled_last some among in
        let over : end_of (span_at spans j) ≤ x.start = pairs_last Below up filled j at in
        omega (arith, over, below, ap (λ s. s.start) same, ap (λ s. s.len) same, some)

    pub ascends_on : Ascends spans last → end_of last ≤ x.start → Ascends more x × (¬ IsDescending more)
    ascends_on up above =
        (runs_on Below IsUpTo filled (omega arith) up.each (λ i one. let under = up.edge i one in (omega (arith, under, above), omega (arith, under, above))), not_descending up.filled up.among above)

    pub descends_on : Descends spans last → end_of x ≤ last.start → Descends more x × (¬ IsAscending more)
    descends_on down below =
        (runs_on Above IsDownTo filled (omega arith) down.each (λ i one. let over = down.edge i one in (omega (arith, over, below), omega (arith, over, below))), not_ascending down.filled down.among below)

    pub turns_down : Ascends spans last → ¬ IsDescending spans → end_of x ≤ last.start → (¬ IsAscending more) × (¬ IsDescending more) × ((n : ℕ) × AreMixed more n)
    turns_down up not below = (not_up, not_down, now_mixed not_up not_down (ascending_apart spans up.each) apart)
      where
        not_up : ¬ IsAscending more
        not_up = not_ascending up.filled up.among below

        not_down : ¬ IsDescending more
        not_down down = not (pairs_less Above down)

        apart : ¬ SharesWithNeighbour more (length spans)
        apart shares = let (place, (from, to), (first, until)) = shares_last Below IsUpTo last up (λ s some over within. omega (arith, some, over, within)) shares in omega (arith, from, until, below)

    pub turns_up : Descends spans last → ¬ IsAscending spans → end_of last ≤ x.start → (¬ IsAscending more) × (¬ IsDescending more) × ((n : ℕ) × AreMixed more n)
    turns_up down not above = (not_up, not_down, now_mixed not_up not_down (descending_apart spans down.each) apart)
      where
        not_up : ¬ IsAscending more
        not_up up = not (pairs_less Below up)

        not_down : ¬ IsDescending more
        not_down = not_descending down.filled down.among above

        apart : ¬ SharesWithNeighbour more (length spans)
        apart shares = let (place, (from, to), (first, until)) = shares_last Above IsDownTo last down (λ s some under within. omega (arith, some, under, within)) shares in omega (arith, to, first, above)

  -- The last span shares a place with the one before it that is not empty
  pub last_shares : (last : Span) → 0 < x.len → 0 < last.len → (j : ℕ) × (span_at spans j ≡ last) → ¬ (end_of last ≤ x.start) → ¬ (end_of x ≤ last.start)
      → ((k : ℕ) → ¬ SharesEarlier spans k) → IsLeastSharing more (length spans)
  last_shares last filled some (j, same) above below apart = ((omega (arith, length-append spans (x ∷ [])), (j, under, both)), λ k less earlier. apart k (old_shares k less earlier))
    where
      under : j < length spans
      under = (old_filled j (omega (arith, ap (λ s. s.len) same, some))).0

      meet : Shares last x
      meet = elim (cases_lt last.start x.start) [
        | inl less ↦ (x.start, (omega arith, omega (arith, above)), (omega arith, omega arith))
        | inr most ↦ (last.start, (omega arith, omega arith), (omega arith, omega (arith, below)))
      ]

      both : Shares (span_at more j) (span_at more (length spans))
      both = subst (λ a. Shares a (span_at more (length spans))) (sym (at_old j under ∙ same)) (subst (Shares last) (sym at_last) meet)

  -- and it is still the first where another one was
  pub still_sharing : (tags : List ℕ) (tag first : ℕ) → (j : ℕ) × IsLeastSharing spans j × (slice_get tags j ≡ Some first)
      → (j : ℕ) × IsLeastSharing more j × (slice_get (tags ++ tag ∷ []) j ≡ Some first)
  still_sharing tags tag first (j, least, at) =
      let within : j < length tags = slice_get_within tags j first at in
      let here : get_or (tags ++ tag ∷ []) j 0 ≡ first = get_or-append tags (tag ∷ []) 0 j within ∙ get_or_from_slice_get tags j first 0 at in
      (j, still_least j least, slice_get-get_or (tags ++ tag ∷ []) j 0 (omega (arith, length-append tags (tag ∷ []), within)) ∙ ap Some here)

  pub now_sharing : (tags : List ℕ) (tag : ℕ) → length tags ≡ length spans → IsLeastSharing more (length spans) → (j : ℕ) × IsLeastSharing more j × (slice_get (tags ++ tag ∷ []) j ≡ Some tag)
  now_sharing tags tag same least =
      let here : get_or (tags ++ tag ∷ []) (length spans) 0 ≡ tag = ap (λ k. get_or (tags ++ tag ∷ []) k 0) (sym same) ∙ get_or-append_seam tags tag [] 0 in
      (length spans, least, slice_get-get_or (tags ++ tag ∷ []) (length spans) 0 (omega (arith, length-append tags (tag ∷ []), same)) ∙ ap Some here)

  -- An empty span changes nothing
  module _ (none : ¬ (0 < x.len)) where
    same_span : (k : ℕ) → IsFilled more k → (span_at more k ≡ span_at spans k) × IsFilled spans k
    same_span k filled = elim (which k filled) [
      | inl (less, same) ↦ (same, omega (arith, ap (λ s. s.len) same, filled))
      | inr (here, same) ↦ absurd (none (omega (arith, ap (λ s. s.len) same, filled)))
    ]

    among_more : (last : Span) → 0 < last.len → (j : ℕ) × (span_at spans j ≡ last) → (j : ℕ) × (span_at more j ≡ last)
    among_more last some (j, same) = (j, at_old j (old_filled j (omega (arith, ap (λ s. s.len) same, some))).0 ∙ same)

    still_runs : (R Q : Span → Span → Type 0) (last : Span) → RunsTo R Q spans last → RunsTo R Q more last
    still_runs R Q last run = record {
      each = pairs_more R run.each (λ some. absurd (none some));
      among = among_more last run.filled run.among;
      filled = run.filled;
      edge = λ i filled. let (same, old) = same_span i filled in subst (λ s. Q s last) (sym same) (run.edge i old);
    }

    still_ascends : (last : Span) → Ascends spans last → Ascends more last
    still_ascends = still_runs Below IsUpTo

    still_descends : (last : Span) → Descends spans last → Descends more last
    still_descends = still_runs Above IsDownTo

    pub same_trend : (tags : List ℕ) (tag : ℕ) (last : Span) (t : Trend) → IsTrend spans tags last t → IsTrend more (tags ++ tag ∷ []) last t
    same_trend tags tag last trend.Empty empty = λ i filled. empty i (same_span i filled).1
    same_trend tags tag last trend.Single (up, down) = (still_ascends last up, still_descends last down)
    same_trend tags tag last trend.Ascending (up, not) = (still_ascends last up, λ all. not (pairs_less Above all))
    same_trend tags tag last trend.Descending (down, not) = (still_descends last down, λ all. not (pairs_less Below all))
    same_trend tags tag last (trend.Sharing first) found = still_sharing tags tag first found
    same_trend tags tag last trend.Unordered unordered = still_unordered unordered
