-- The last entry of an index at or before an address is the nearest symbol's.
use Rattle.std.proofs.Common.{◌≡◌, ◌∙◌, ◌⊎◌, ℕ, ◌+◌, ◌*◌, ◌^◌, ◌≤◌, ◌<◌, List, length, get_or, slice_index, true, false, Option, None, Some, slice_get, Contains, inl, inr, refl, sym, subst, arith}
use Rattle.std.specs.List.{range_with_len}
use Rattle.std.specs.Prelude.{MatchOption}
use Rattle.std.proofs.lemmas.Bool.{cases_lt, false≢true, leb-false}
use Rattle.std.proofs.lemmas.List.{get_or_default}
use Rattle.std.proofs.lemmas.List.Elements.{filter_passes}
use Rattle.std.proofs.lemmas.List.FromFn.{length-range_with_len, get_or-range_with_len}
use Rattle.std.proofs.lemmas.List.Sorted.{All-permutation, Contains-permutation}
use Rattle.std.proofs.lemmas.Option.{slice_get_within, same_Some}
use Rattle.macho_image.specs.declared.symbol.Symbol.{Symbol}
use Rattle.macho_rules.proofs.Mapped.{filtered}
use Rattle.macho_rows.specs.SymbolIndex.{is_address, has_address, addresses, sort_key, IsIndex, is_at_or_before, BeginsPast, IsLastSymbol, FindsLast, IsNearest, HasNoneBefore}

-- a number with this test is the index of a symbol that has an address
has_symbol : (symbols : List Symbol) (number : ℕ) → has_address symbols number ≡ true → (s : Symbol) × (slice_get symbols number ≡ Some s) × (is_address s.kind ≡ true)
has_symbol symbols number is = by (slice_get symbols number) refl
  where
    by : (o : Option Symbol) → slice_get symbols number ≡ o → (s : Symbol) × (slice_get symbols number ≡ Some s) × (is_address s.kind ≡ true)
    by None none = absurd (false≢true (rw none at is))
    by (Some s) some = (s, some, rw some at is)

-- one that begins past the address
past_value : (symbols : List Symbol) (address number : ℕ) (s : Symbol) → slice_get symbols number ≡ Some s → is_at_or_before symbols address number ≡ false → address < s.value
past_value symbols address number s is past = leb-false s.value address (rw is at past)

module _ (symbols : List Symbol) (few : length symbols ≤ 2 ^ 32) (index : List ℕ) (is : IsIndex symbols index) (address : ℕ) where
  -- each entry is the index of a symbol that has an address
  entry : (i : ℕ) → i < length index → (s : Symbol) × (slice_get symbols (slice_index index i) ≡ Some s) × (is_address s.kind ≡ true)
  entry i within =
      has_symbol symbols (slice_index index i)
      (All-permutation (λ k. has_address symbols k ≡ true) (addresses symbols) index is.0 (filter_passes (has_address symbols) (range_with_len 0 (length symbols))) i 0 within)

  -- and each such symbol has an entry
  place_of : (k : ℕ) (s : Symbol) → slice_get symbols k ≡ Some s → is_address s.kind ≡ true → (i : ℕ) × (i < length index) × (get_or index i k ≡ k)
  place_of k s at has =
      let inside : k < length symbols = slice_get_within symbols k s at in
      let among : Contains (range_with_len 0 (length symbols)) k = (k, omega (arith, inside, length-range_with_len 0 (length symbols)), get_or-range_with_len 0 (length symbols) k k inside ∙ (let same : 0 + k ≡ k = omega arith in same)) in
      let passes : has_address symbols k ≡ true = rw at has in
      Contains-permutation (addresses symbols) index k is.0 (filtered (has_address symbols) (range_with_len 0 (length symbols)) k among passes)

  -- of two entries, the later one has no lesser value, and of one value no lesser index
  rises : (i j k l : ℕ) (s t : Symbol) → i ≤ j → j < length index → get_or index i 0 ≡ k → get_or index j 0 ≡ l → slice_get symbols k ≡ Some s → slice_get symbols l ≡ Some t
      → (s.value < t.value) ⊎ ((s.value ≡ t.value) × (k ≤ l))
  rises i j k l s t before within first second at_first at_second =
      let keys : sort_key symbols (get_or index i 0) ≤ sort_key symbols (get_or index j 0) = is.1 i j 0 before within in
      let ordered : s.value * 2 ^ 32 + k ≤ t.value * 2 ^ 32 + l = rw (first, second, at_first, at_second) at keys in
      let low : k < 2 ^ 32 = omega (arith, slice_get_within symbols k s at_first, few) in
      let high : l < 2 ^ 32 = omega (arith, slice_get_within symbols l t at_second, few) in
      elim (cases_lt s.value t.value) [
        | inl less ↦ inl less
        | inr most ↦ inr (omega (arith, ordered, low, high, most), omega (arith, ordered, low, high, most))
      ]

  -- where an entry begins past the address, so does the symbol of each later one
  stays_past : (next j l : ℕ) (t : Symbol) → BeginsPast symbols index address next → next ≤ j → j < length index → get_or index j 0 ≡ l → slice_get symbols l ≡ Some t → address < t.value
  stays_past next j l t past before within at found =
      let (s, first, has) = entry next (omega arith) in
      let more : address < s.value = past_value symbols address (slice_index index next) s first (past (omega arith)) in
      elim (rises next j (slice_index index next) l s t before within refl at first found) [
        | inl less ↦ omega (arith, more, less)
        | inr (same, order) ↦ omega (arith, more, same)
      ]

  pub nearest : (position : ℕ) (s : Symbol) → IsLastSymbol symbols index address position s → IsNearest symbols address (slice_index index position) s
  nearest position s last = record {
    is = last.is;
    has = let (t, at, has) = entry position last.within in subst (λ (u : Symbol). is_address u.kind ≡ true) (same_Some t s (sym at ∙ last.is)) has;
    reaches = last.reaches;
    nearest = λ k other at has reaches.
        let (i, within, here) = place_of k other at has in
        let there : get_or index i 0 ≡ k = sym (get_or_default index i k 0 within) ∙ here in
        elim (cases_lt position i) [
          | inl later ↦
              let past : address < other.value = stays_past (position + 1) i k other last.next (omega (arith, later)) within there at in
              absurd (omega (arith, past, reaches))
          | inr earlier ↦ rises i position k (slice_index index position) other s earlier last.within there refl at last.is
        ];
  }

  pub none_before : BeginsPast symbols index address 0 → HasNoneBefore symbols address
  none_before past k other at has =
      let (i, within, here) = place_of k other at has in
      let there : get_or index i 0 ≡ k = sym (get_or_default index i k 0 within) ∙ here in
      stays_past 0 i k other past (omega arith) within there at

-- what is found by the index is the nearest symbol
pub finds : (symbols : List Symbol) (index : List ℕ) (address : ℕ) (found : Option (ℕ × Symbol)) → length symbols ≤ 2 ^ 32 → FindsLast symbols index address found → IsIndex symbols index
    → MatchOption found (HasNoneBefore symbols address) (λ last. IsNearest symbols address (slice_index index last.0) last.1)
finds symbols index address None few past is = none_before symbols few index is address past
finds symbols index address (Some last) few found is = nearest symbols few index is address last.0 last.1 found
