-- The least place of an item whose names an item at a lesser place has, among items that are grouped by their names.
use Rattle.std.proofs.Common.{◌≡◌, ℕ, zero, suc, ◌+◌, ◌≤◌, ◌<◌, ◌⊎◌, ◌↔◌, List, [], ◌∷◌, ◌++◌, map, slice_get, Bool, true, false, IsTrue, length, get_or, Contains, Option, None, Some, refl, sym, ap, ◌∙◌, subst, arith, inl, inr, le_refl}
use Rattle.std.proofs.lemmas.Bool.{cases_lt}
use Rattle.std.proofs.lemmas.List.{get_or_default, map_push}
use Rattle.std.proofs.lemmas.List.Elements.{Contains-get_or}
use Rattle.std.specs.Prelude.{IsPermutation, not, is_some}
use Rattle.std.specs.Option.{option_map}
use Rattle.std.proofs.lemmas.Option.{none-some, slice_get_within}
use Rattle.std.specs.Cmp.{IsTotalOrder, nat_cmp_total, on_total, unsigned_ties}
use Rattle.std.specs.List.Sorted.{IsSortedBy}
use Rattle.std.specs.Ordering.{ordering_then, ordering_index, nat_cmp, is_eq, is_lt, is_gt}
use Rattle.std.specs.declared.cmp.Ordering.{Ordering}
use Rattle.std.specs.declared.cmp.Ordering.TheVariants.{Less, Equal, Greater}
use Rattle.std.proofs.lemmas.Bool.{eqb-true, true≢false}
use Rattle.std.proofs.lemmas.Cmp.{then_total, tied_itself}
use Rattle.std.proofs.lemmas.List.Sorted.{Contains-permutation, IsPermutation-sym, searchable_from_sorted}
use Rattle.macho_fields.specs.FirstPlace.{IsLeastPlace}
use Rattle.macho_fields.proofs.Lists.{contains_mapped}
use Rattle.macho_rules.proofs.Searches.{mapped_has}
use Rattle.macho_tables.proofs.Places.{least_same, least_joined}
use Rattle.macho_tables.specs.Places.{lesser}
use Rattle.macho_readers.specs.Names.{names_of, HaveSameNames, AreGrouped, RepeatsNames}
use Rattle.macho_readers.specs.declared.names.Named.{Named}

back : (a b : Named) → HaveSameNames a b → HaveSameNames b a
back a b (segment, section) = (sym segment, sym section)

on : (a b c : Named) → HaveSameNames a b → HaveSameNames b c → HaveSameNames a c
on a b c (segment, section) (segment_on, section_on) = (segment ∙ segment_on, section ∙ section_on)

-- one more place
least_with : (P Q : ℕ → Type 0) (found : Option ℕ) (p : ℕ) → IsLeastPlace P found → ((q : ℕ) → P q → Q q) → Q p → ((q : ℕ) → Q q → P q ⊎ (p ≤ q)) → IsLeastPlace Q (lesser found (Some p))
least_with P Q found p least to here from =
    least_same (λ q. P q ⊎ ((p ≤ q) × Q q)) Q (lesser found (Some p)) (λ q. (λ either. elim either [ inl is ↦ to q is | inr is ↦ is.1 ], λ is. elim (from q is) [ inl old ↦ inl old | inr above ↦ inr (above, is) ]))
    (least_joined P (λ q. (p ≤ q) × Q q) found (Some p) least ((le_refl p, here), λ q is. is.0))

-- what stands for an item that is not there
abbrev no_named : Named
no_named = record { segment = 0; section = 0; place = 0 }

module _ (items : List Named) where
  abbrev at : ℕ → Named
  at k = get_or items k no_named

  -- among the first n items
  abbrev pub RepeatsBelow : ℕ → ℕ → Type 0
  RepeatsBelow n place =
      (i j : ℕ) × (i < n) × (j < n) × HaveSameNames (at i) (at j) × ((at i).place < (at j).place) × (place ≡ (at j).place)

  -- what the walk has found in them, and the item at the least place among those with the names of the last
  pub record Walked (n : ℕ) (first : Named) (found : Option ℕ) : Type 0 where
    pub least : IsLeastPlace (RepeatsBelow n) found
    pub among : 0 < n → (r : ℕ) × (r < n) × (first ≡ at r)
    pub begins : n ≡ 0 → first ≡ at 0
    pub lowest : (i : ℕ) → i < n → HaveSameNames (at i) first → first.place ≤ (at i).place
    pub last : (m : ℕ) → n ≡ m + 1 → HaveSameNames (at m) first

  pub walked_none : (first : Named) → first ≡ at 0 → Walked 0 first None
  walked_none first is = record {
    least = λ place (i, j, less, _, _, _, _). absurd (omega (arith, less));
    among = λ some. absurd (omega (arith, some));
    begins = λ none. is;
    lowest = λ i less same. absurd (omega (arith, less));
    last = λ m some. absurd (omega (arith, some));
  }

  -- a pair among one more: an old one, or one with the last
  abbrev WithLast : ℕ → ℕ → Type 0
  WithLast n place =
      ((i : ℕ) × (i < n) × HaveSameNames (at i) (at n) × ((at i).place < (at n).place) × (place ≡ (at n).place))
      ⊎ ((j : ℕ) × (j < n) × HaveSameNames (at n) (at j) × ((at n).place < (at j).place) × (place ≡ (at j).place))

  more : (n place : ℕ) → RepeatsBelow n place → RepeatsBelow (n + 1) place
  more n place (i, j, less_i, less_j, same, lower, is) = (i, j, omega (arith, less_i), omega (arith, less_j), same, lower, is)

  split : (n place : ℕ) → RepeatsBelow (n + 1) place → RepeatsBelow n place ⊎ WithLast n place
  split n place (i, j, less_i, less_j, same, lower, is) = by (cases_lt i n) (cases_lt j n)
    where
      by : (i < n) ⊎ (n ≤ i) → (j < n) ⊎ (n ≤ j) → RepeatsBelow n place ⊎ WithLast n place
      by (inl a) (inl b) = inl (i, j, a, b, same, lower, is)
      by (inl a) (inr b) =
          let here : j ≡ n = omega (arith, b, less_j) in
          inr (inl (i, a, subst (λ k. HaveSameNames (at i) (at k)) here same, subst (λ k. (at i).place < (at k).place) here lower, subst (λ k. place ≡ (at k).place) here is))
      by (inr a) (inl b) =
          let here : i ≡ n = omega (arith, a, less_i) in
          inr (inr (j, b, subst (λ k. HaveSameNames (at k) (at j)) here same, subst (λ k. (at k).place < (at j).place) here lower, is))
      by (inr a) (inr b) =
          let one : i ≡ j = omega (arith, a, b, less_i, less_j) in
          absurd (let wrong = subst (λ k. (at k).place < (at j).place) one lower in omega (arith, wrong))

  module _ (grouped : AreGrouped items) (n : ℕ) (less : n < length items) (first : Named) (found : Option ℕ) (walked : Walked n first found) where
    abbrev item : Named
    item = at n

    -- an earlier item has the names of this one: then the last one has them
    meets : (i : ℕ) → i < n → HaveSameNames (at i) item → HaveSameNames first item
    meets i before same = by n refl
      where
        by : (k : ℕ) → n ≡ k → HaveSameNames first item
        by zero none = absurd (omega (arith, before, none))
        by (suc m) is =
            let last = walked.last m (omega (arith, is)) in
            on first (at m) item (back (at m) first last) (grouped i m n no_named (omega (arith, before, is)) (omega (arith, is)) less same)

    -- the place of an old item, or this item itself
    first_at : (P : ℕ → Type 0) → (first ≡ item → P first.place) → ((r : ℕ) → r < n → first ≡ at r → P first.place) → P first.place
    first_at P same old = by (cases_lt 0 n)
      where
        by : (0 < n) ⊎ (n ≤ 0) → P first.place
        by (inl some) = let (r, within, is) = walked.among some in old r within is
        by (inr none) = let zero_is : n ≡ 0 = omega (arith, none) in same (walked.begins zero_is ∙ ap at (sym zero_is))

    -- the item has other names
    pub walked_other : (HaveSameNames item first → ⊥) → Walked (n + 1) item found
    walked_other other = record {
      least = least_same (RepeatsBelow n) (RepeatsBelow (n + 1)) found (λ q. (more n q, λ is. old q (split n q is))) walked.least;
      among = λ some. (n, omega arith, refl);
      begins = λ none. absurd (omega (arith, none));
      lowest = λ i within same. lowest i within same (cases_lt i n);
      last = λ m is. let here : n ≡ m = omega (arith, is) in subst (λ k. HaveSameNames (at k) item) here (refl, refl);
    }
      where
        alone : (i : ℕ) → i < n → HaveSameNames (at i) item → ⊥
        alone i before same = other (back first item (meets i before same))

        old : (q : ℕ) → RepeatsBelow n q ⊎ WithLast n q → RepeatsBelow n q
        old q (inl is) = is
        old q (inr (inl (i, before, same, _, _))) = absurd (alone i before same)
        old q (inr (inr (j, before, same, _, _))) = absurd (alone j before (back item (at j) same))

        lowest : (i : ℕ) → i < n + 1 → HaveSameNames (at i) item → (i < n) ⊎ (n ≤ i) → item.place ≤ (at i).place
        lowest i within same (inl before) = absurd (alone i before same)
        lowest i within same (inr most) = let here : n ≡ i = omega (arith, within, most) in subst (λ k. item.place ≤ (at k).place) here (le_refl item.place)

    module _ (same : HaveSameNames item first) where
      among_more : 0 < n + 1 → (r : ℕ) × (r < n + 1) × (first ≡ at r)
      among_more some = by (cases_lt 0 n)
        where
          by : (0 < n) ⊎ (n ≤ 0) → (r : ℕ) × (r < n + 1) × (first ≡ at r)
          by (inl some) = let (r, within, is) = walked.among some in (r, omega (arith, within), is)
          by (inr none) = let zero_is : n ≡ 0 = omega (arith, none) in (0, omega arith, walked.begins zero_is)

      last_more : (m : ℕ) → n + 1 ≡ m + 1 → HaveSameNames (at m) first
      last_more m is = let here : n ≡ m = omega (arith, is) in subst (λ k. HaveSameNames (at k) first) here same

      lowest_more : first.place ≤ item.place → (i : ℕ) → i < n + 1 → HaveSameNames (at i) first → first.place ≤ (at i).place
      lowest_more above i within named = by (cases_lt i n)
        where
          by : (i < n) ⊎ (n ≤ i) → first.place ≤ (at i).place
          by (inl before) = walked.lowest i before named
          by (inr most) = let here : n ≡ i = omega (arith, within, most) in subst (λ k. first.place ≤ (at k).place) here above

      -- the item is at a lesser place than those with its names
      pub walked_lower : item.place < first.place → Walked (n + 1) item (lesser found (Some first.place))
      walked_lower lower = record {
        least = least_with (RepeatsBelow n) (RepeatsBelow (n + 1)) found first.place walked.least (more n) here (λ q is. from q (split n q is));
        among = λ some. (n, omega arith, refl);
        begins = λ none. absurd (omega (arith, none));
        lowest = λ i within named. lowest i within named (cases_lt i n);
        last = λ m is. let here : n ≡ m = omega (arith, is) in subst (λ k. HaveSameNames (at k) item) here (refl, refl);
      }
        where
          here : RepeatsBelow (n + 1) first.place
          here = first_at (RepeatsBelow (n + 1)) (λ one. absurd (let both = ap (λ (x : Named). x.place) one in omega (arith, both, lower)))
              (λ r within is. (n, r, omega arith, omega (arith, within), subst (HaveSameNames item) is same, subst (λ (x : Named). item.place < x.place) is lower, ap (λ (x : Named). x.place) is))

          from : (q : ℕ) → RepeatsBelow n q ⊎ WithLast n q → RepeatsBelow n q ⊎ (first.place ≤ q)
          from q (inl is) = inl is
          from q (inr (inl (i, before, named, less_i, _))) = absurd (let low = walked.lowest i before (on (at i) item first named same) in omega (arith, low, less_i, lower))
          from q (inr (inr (j, before, named, less_j, is))) = inr (let low = walked.lowest j before (on (at j) item first (back item (at j) named) same) in omega (arith, low, is))

          lowest : (i : ℕ) → i < n + 1 → HaveSameNames (at i) item → (i < n) ⊎ (n ≤ i) → item.place ≤ (at i).place
          lowest i within named (inl before) = let low = walked.lowest i before (on (at i) item first named same) in omega (arith, low, lower)
          lowest i within named (inr most) = let one : n ≡ i = omega (arith, within, most) in subst (λ k. item.place ≤ (at k).place) one (le_refl item.place)

      -- it is at a greater place than the least of them
      pub walked_higher : first.place < item.place → Walked (n + 1) first (lesser found (Some item.place))
      walked_higher higher = record {
        least = least_with (RepeatsBelow n) (RepeatsBelow (n + 1)) found item.place walked.least (more n) here (λ q is. from q (split n q is));
        among = among_more;
        begins = λ none. absurd (omega (arith, none));
        lowest = lowest_more (omega (arith, higher));
        last = last_more;
      }
        where
          here : RepeatsBelow (n + 1) item.place
          here = first_at (λ p. RepeatsBelow (n + 1) item.place) (λ one. absurd (let both = ap (λ (x : Named). x.place) one in omega (arith, both, higher)))
              (λ r within is. (r, n, omega (arith, within), omega arith, subst (λ (x : Named). HaveSameNames x item) is (back item first same), subst (λ (x : Named). x.place < item.place) is higher, refl))

          from : (q : ℕ) → RepeatsBelow n q ⊎ WithLast n q → RepeatsBelow n q ⊎ (item.place ≤ q)
          from q (inl is) = inl is
          from q (inr (inl (i, before, named, less_i, is))) = inr (omega (arith, is))
          from q (inr (inr (j, before, named, less_j, is))) = inr (omega (arith, is, less_j))

      -- it is at the least place of them
      pub walked_same : item.place ≡ first.place → Walked (n + 1) first found
      walked_same level = record {
        least = least_same (RepeatsBelow n) (RepeatsBelow (n + 1)) found (λ q. (more n q, λ is. old q (split n q is))) walked.least;
        among = among_more;
        begins = λ none. absurd (omega (arith, none));
        lowest = lowest_more (omega (arith, level));
        last = last_more;
      }
        where
          old : (q : ℕ) → RepeatsBelow n q ⊎ WithLast n q → RepeatsBelow n q
          old q (inl is) = is
          old q (inr (inl (i, before, named, less_i, _))) = absurd (let low = walked.lowest i before (on (at i) item first named same) in omega (arith, low, less_i, level))
          old q (inr (inr (j, before, named, less_j, is))) =
              let (r, within, at_r) = walked.among (omega (arith, before)) in
              (r, j, within, before, subst (λ (x : Named). HaveSameNames x (at j)) at_r (on first item (at j) (back item first same) named), subst (λ (x : Named). x.place < (at j).place) at_r (omega (arith, less_j, level)), is)

  -- all items were passed
  pub walked_all : (first : Named) (found : Option ℕ) → Walked (length items) first found → IsLeastPlace (RepeatsNames items) found
  walked_all first found walked = least_same (RepeatsBelow (length items)) (RepeatsNames items) found (λ q. (to q, from q)) walked.least
    where
      to : (q : ℕ) → RepeatsBelow (length items) q → RepeatsNames items q
      to q (i, j, less_i, less_j, same, lower, is) = (at j, at i, Contains-get_or items j no_named less_j, Contains-get_or items i no_named less_i, same, lower, is)

      from : (q : ℕ) → RepeatsNames items q → RepeatsBelow (length items) q
      from q (later, earlier, (j, less_j, is_j), (k, less_k, is_k), same, lower, is) =
          let one : at j ≡ later = get_or_default items j no_named later less_j ∙ is_j in
          let other : at k ≡ earlier = get_or_default items k no_named earlier less_k ∙ is_k in (
            k,
            j,
            less_k,
            less_j,
            subst (λ (x : Named). HaveSameNames x (at j)) (sym other) (subst (HaveSameNames earlier) (sym one) same),
            subst (λ (x : Named). x.place < (at j).place) (sym other) (subst (λ (x : Named). earlier.place < x.place) (sym one) lower),
            is ∙ ap (λ (x : Named). x.place) (sym one),
          )

-- Items that are sorted by their names

abbrev pub by_names : Named → Named → Ordering
by_names one other =
    ordering_then (nat_cmp one.segment other.segment) (nat_cmp one.section other.section)

by_names_total : IsTotalOrder by_names
by_names_total = then_total (on_total (λ (n : Named). n.segment) nat_cmp_total) (on_total (λ (n : Named). n.section) nat_cmp_total)

number_tied : (m n : ℕ) → m ≡ n → nat_cmp m n ≡ Equal
number_tied m n same = ap (λ k. nat_cmp k n) same ∙ tied_itself nat_cmp_total n

tied_number : (m n : ℕ) → nat_cmp m n ≡ Equal → m ≡ n
tied_number m n tied = eqb-true m n (unsigned_ties m n ∙ ap is_eq tied)

same_tied : (a b : Named) → HaveSameNames a b → by_names a b ≡ Equal
same_tied a b (segment, section) =
    ap (λ o. ordering_then o (nat_cmp a.section b.section)) (number_tied a.segment b.segment segment) ∙ number_tied a.section b.section section

then_tied : (p q : Ordering) → ordering_then p q ≡ Equal → (p ≡ Equal) × (q ≡ Equal)
then_tied Less q wrong = absurd (true≢false (ap is_lt wrong))
then_tied Equal q tied = (refl, tied)
then_tied Greater q wrong = absurd (true≢false (ap is_gt wrong))

tied_same : (a b : Named) → by_names a b ≡ Equal → HaveSameNames a b
tied_same a b tied =
    let (segment, section) = then_tied (nat_cmp a.segment b.segment) (nat_cmp a.section b.section) tied in
    (tied_number a.segment b.segment segment, tied_number a.section b.section section)

in_middle : (r : Ordering) → 1 ≤ ordering_index r → ordering_index r ≤ 1 → r ≡ Equal
in_middle Less low high = absurd (omega (arith, low))
in_middle Equal low high = refl
in_middle Greater low high = absurd (omega (arith, high))

pub grouped_by : (items : List Named) → IsSortedBy (λ a b. is_lt (by_names a b)) items → AreGrouped items
grouped_by items sorted i j k d low high less same =
    let x = get_or items k d in
    let up = searchable_from_sorted by_names_total (λ (n : Named). n) items x sorted in
    let from : ordering_index (by_names (get_or items i d) x) ≤ ordering_index (by_names (get_or items j d) x) = up i j d low (omega (arith, high, less)) in
    let to : ordering_index (by_names (get_or items j d) x) ≤ ordering_index (by_names x x) = up j k d high less in
    let least : ordering_index (by_names (get_or items i d) x) ≡ 1 = ap ordering_index (same_tied (get_or items i d) x same) in
    let most : ordering_index (by_names x x) ≡ 1 = ap ordering_index (tied_itself by_names_total x) in
    tied_same (get_or items j d) x (in_middle (by_names (get_or items j d) x) (omega (arith, from, least)) (omega (arith, to, most)))

-- the same items in another order
repeats_moved : (items moved : List Named) → IsPermutation items moved → (place : ℕ) → RepeatsNames items place → RepeatsNames moved place
repeats_moved items moved same place (later, earlier, has_later, has_earlier, named, less, is) =
    (later, earlier, Contains-permutation items moved later same has_later, Contains-permutation items moved earlier same has_earlier, named, less, is)

pub least_moved : (items moved : List Named) (found : Option ℕ) → IsPermutation items moved → IsLeastPlace (RepeatsNames moved) found → IsLeastPlace (RepeatsNames items) found
least_moved items moved found same =
    least_same (RepeatsNames moved) (RepeatsNames items) found (λ place. (repeats_moved moved items (IsPermutation-sym items moved same) place, repeats_moved items moved same place))

-- Items that stand for what is listed

module _ {A : Type 0} (of : A → ℕ × ℕ × ℕ) (listed : List A) where
  -- one that is listed is at the place, and one at a lesser place has its names
  abbrev pub RepeatsListed : ℕ → Type 0
  RepeatsListed place =
      (one earlier : A) × Contains listed one × Contains listed earlier × ((of earlier).0 ≡ (of one).0)
      × ((of earlier).1 ≡ (of one).1) × ((of earlier).2 < (of one).2) × (place ≡ (of one).2)

  module _ (items : List Named) (are : map names_of items ≡ map of listed) where
    listed_of : (n : Named) → Contains items n → (a : A) × Contains listed a × (of a ≡ names_of n)
    listed_of n has = mapped_has of listed (names_of n) (subst (λ these. Contains these (names_of n)) are (contains_mapped names_of items n has))

    item_of : (a : A) → Contains listed a → (n : Named) × Contains items n × (names_of n ≡ of a)
    item_of a has = mapped_has names_of items (of a) (subst (λ these. Contains these (of a)) (sym are) (contains_mapped of listed a has))

    to : (place : ℕ) → RepeatsNames items place → RepeatsListed place
    to place (later, earlier, has_later, has_earlier, (segment, section), less, is) =
        let (a, has_a, is_a) = listed_of later has_later in
        let (e, has_e, is_e) = listed_of earlier has_earlier in (
          a,
          e,
          has_a,
          has_e,
          ap (λ t. t.0) is_e ∙ (segment ∙ sym (ap (λ t. t.0) is_a)),
          ap (λ t. t.1) is_e ∙ (section ∙ sym (ap (λ t. t.1) is_a)),
          (let one = ap (λ t. t.2) is_a in let other = ap (λ t. t.2) is_e in omega (arith, one, other, less)),
          is ∙ sym (ap (λ t. t.2) is_a),
        )

    from : (place : ℕ) → RepeatsListed place → RepeatsNames items place
    from place (a, e, has_a, has_e, segment, section, less, is) =
        let (later, has_later, is_later) = item_of a has_a in
        let (earlier, has_earlier, is_earlier) = item_of e has_e in (
          later,
          earlier,
          has_later,
          has_earlier,
          (ap (λ t. t.0) is_earlier ∙ (segment ∙ sym (ap (λ t. t.0) is_later)), ap (λ t. t.1) is_earlier ∙ (section ∙ sym (ap (λ t. t.1) is_later))),
          (let one = ap (λ t. t.2) is_later in let other = ap (λ t. t.2) is_earlier in omega (arith, one, other, less)),
          is ∙ sym (ap (λ t. t.2) is_later),
        )

    pub least_listed : (found : Option ℕ) → IsLeastPlace (RepeatsNames items) found → IsLeastPlace RepeatsListed found
    least_listed found = least_same (RepeatsNames items) RepeatsListed found (λ place. (to place, from place))

  -- one more is listed
  pub listed_more : (seen : List A) (a : A) (old new : List Named) (item : Named) → new ≡ old ++ item ∷ [] → map names_of old ≡ map of seen → names_of item ≡ of a → map names_of new ≡ map of (seen ++ a ∷ [])
  listed_more seen a old new item pushed are is =
      ap (map names_of) pushed ∙ (map_push names_of old item ∙ ((λ i. are i ++ is i ∷ []) ∙ sym (map_push of seen a)))

-- Whether there are more than so many

past_end : {B : Type 0} (xs : List B) (n : ℕ) → ◌≡◌ {A = Option B} None (slice_get xs n) → length xs ≤ n
past_end [] n none = omega arith
past_end (x ∷ xs) zero none = absurd (none-some x none)
past_end (x ∷ xs) (suc n) none = let rest = past_end xs n none in omega (arith, rest)

pub few : {A B : Type 0} (v : A → B) (r : Option A) (xs : List B) (n : ℕ) (none : Bool) → option_map v r ≡ slice_get xs n → is_some r ≡ not none → IsTrue none ↔ (length xs ≤ n)
few v None xs n true at is = (λ _. past_end xs n at, λ _. refl)
few v None xs n false at is = absurd (true≢false (sym is))
few v (Some a) xs n true at is = absurd (true≢false is)
few v (Some a) xs n false at is = (λ wrong. absurd (true≢false (sym wrong)), λ short. absurd (let within = slice_get_within xs n (v a) (sym at) in omega (arith, within, short)))
