-- How many bytes of a command are zero, one more at a time.
use Rattle.std.proofs.Common.{◌≡◌, ◌∙◌, ◌==◌, ℕ, suc, zero, ◌+◌, ◌-◌, ◌≤◌, ◌<◌, List, length, take, drop, get_or, Bool, sym, ap, arith, inl, inr, length-drop}
use Rattle.std.specs.Prelude.{count_by, slice_index}
use Rattle.std.proofs.lemmas.Bool.{cases_Bool, cases_lt, eq-eqb, eqb-true}
use Rattle.std.proofs.lemmas.List.{get_or-drop}
use Rattle.std.proofs.lemmas.List.Sums.{count_by_more_no, count_by_more_yes}
use Rattle.macho_fields.specs.Field.{HasZero}
use Rattle.macho_commands.specs.Described.{zero_count, string_count, HasFewStrings, IsEndOfStrings}

abbrev pub is_zero : ℕ → Bool
is_zero byte = byte == 0

module _ (bytes : List ℕ) (start : ℕ) where
  -- the zero bytes among the first k bytes from the start on
  abbrev count : ℕ → ℕ
  count k = count_by is_zero (take k (drop start bytes))

  byte_at : (k : ℕ) → get_or (drop start bytes) k 0 ≡ slice_index bytes (start + k)
  byte_at k = get_or-drop start bytes k 0

  one_zero : (k : ℕ) → start + k < length bytes → slice_index bytes (start + k) ≡ 0 → count (k + 1) ≡ count k + 1
  one_zero k inside is =
      count_by_more_yes is_zero (drop start bytes) k 0 (omega (arith, length-drop start bytes)) (eq-eqb _ 0 (byte_at k ∙ is))

  not_less : (k : ℕ) → start + k < length bytes → count k ≤ count (k + 1)
  not_less k inside = elim (cases_Bool (is_zero (get_or (drop start bytes) k 0))) [
    | inl it ↦ let more = count_by_more_yes is_zero (drop start bytes) k 0 (omega (arith, length-drop start bytes)) it in omega (arith, more)
    | inr other ↦ let same = count_by_more_no is_zero (drop start bytes) k 0 (omega (arith, length-drop start bytes)) other in omega (arith, same)
  ]

  one_other : (k : ℕ) → start + k < length bytes → ¬ HasZero bytes (start + k) (start + k + 1) → count (k + 1) ≡ count k
  one_other k inside none = elim (cases_Bool (is_zero (get_or (drop start bytes) k 0))) [
    | inl it ↦ absurd (none (start + k, omega arith, omega arith, inside, sym (byte_at k) ∙ eqb-true _ 0 it))
    | inr other ↦ count_by_more_no is_zero (drop start bytes) k 0 (omega (arith, length-drop start bytes)) other
  ]

  -- no more among more bytes, where the added bytes are not zero
  none_more : (k n : ℕ) → start + (k + n) ≤ length bytes → ¬ HasZero bytes (start + k) (start + (k + n)) → count (k + n) ≡ count k
  none_more k zero inside none = ap count (omega arith)
  none_more k (suc n) inside none =
      let before = none_more k n (omega arith) (λ (z, low, high, held, is). none (z, low, omega arith, held, is)) in
      let here = one_other (k + n) (omega arith) (λ (z, low, high, held, is). none (z, omega arith, omega arith, held, is)) in
      let next : count (k + suc n) ≡ count (k + n + 1) = ap count (omega arith) in
      omega (arith, before, here, next)

  -- no fewer of more bytes
  more : (k n : ℕ) → start + (k + n) ≤ length bytes → count k ≤ count (k + n)
  more k zero inside = let same : count (k + 0) ≡ count k = ap count (omega arith) in omega (arith, same)
  more k (suc n) inside =
      let before = more k n (omega arith) in
      let here = not_less (k + n) (omega arith) in
      let next : count (k + suc n) ≡ count (k + n + 1) = ap count (omega arith) in
      omega (arith, before, here, next)

  -- The same by offsets

  pub none_between : (from to : ℕ) → start ≤ from → from ≤ to → to ≤ length bytes → ¬ HasZero bytes from to → zero_count bytes start to ≡ zero_count bytes start from
  none_between from to low order inside none =
      let n = to - from in
      let k = from - start in
      let at : k + n ≡ to - start = omega arith in
      let first : start + k ≡ from = omega arith in
      let last : start + (k + n) ≡ to = omega arith in
      sym (ap count at) ∙ none_more k n (omega arith) (λ (z, less, high, held, is). none (z, omega arith, omega arith, held, is))

  pub zero_between : (at : ℕ) → start ≤ at → at < length bytes → slice_index bytes at ≡ 0 → zero_count bytes start (at + 1) ≡ zero_count bytes start at + 1
  zero_between at low inside is =
      let k = at - start in
      let here : start + k ≡ at = omega arith in
      let past : k + 1 ≡ at + 1 - start = omega arith in
      sym (ap count past) ∙ one_zero k (omega arith) (ap (slice_index bytes) here ∙ is)

  pub not_fewer : (from to : ℕ) → start ≤ from → from ≤ to → to ≤ length bytes → zero_count bytes start from ≤ zero_count bytes start to
  not_fewer from to low order inside =
      let n = to - from in
      let k = from - start in
      let at : count (k + n) ≡ count (to - start) = ap count (omega arith) in
      let up = more k n (omega arith) in
      omega (arith, at, up)

  -- Strings from the start on; so many end before the place

  pub record Ended (index end : ℕ) : Type 0 where
    pub low : start ≤ end
    pub inside : end ≤ length bytes
    pub zeros : zero_count bytes start end ≡ index
    pub fewer : (offset : ℕ) → start ≤ offset → offset < end → zero_count bytes start offset < index

  pub none_ended : start ≤ length bytes → Ended 0 start
  none_ended inside = record {
    low = omega arith;
    inside = inside;
    zeros = let none : start - start ≡ 0 = omega arith in ap count none;
    fewer = λ offset low less. absurd (omega arith);
  }

  pub one_ended : (index end at : ℕ) → Ended index end → end ≤ at → at < length bytes → slice_index bytes at ≡ 0 → ¬ HasZero bytes end at → Ended (index + 1) (at + 1)
  one_ended index end at ended order inside is none =
      let same = none_between end at ended.low order (omega arith) none in
      let low = ended.low in
      let zeros = ended.zeros in
      let next = zero_between at (omega arith) inside is in
      record {
        low = omega arith;
        inside = omega arith;
        zeros = omega (arith, same, zeros, next);
        fewer = λ offset from less. elim (cases_lt offset end) [
          | inl early ↦ let few = ended.fewer offset from early in omega (arith, few)
          | inr late ↦
              let there = none_between end offset low late (omega arith) (λ (z, above, below, held, zeroed). none (z, above, omega arith, held, zeroed)) in
              omega (arith, there, zeros)
        ];
      }

  -- no more of them end
  pub few_ended : (index end : ℕ) → Ended index end → index < string_count bytes → ¬ HasZero bytes end (length bytes) → HasFewStrings start bytes
  few_ended index end ended less none =
      let same = none_between end (length bytes) ended.low ended.inside (omega arith) none in
      let zeros = ended.zeros in
      omega (arith, same, zeros, less)

  -- all of them do
  pub enough_ended : (end : ℕ) → Ended (string_count bytes) end → ¬ HasFewStrings start bytes
  enough_ended end ended few = let up = not_fewer end (length bytes) ended.low ended.inside (omega arith) in let zeros = ended.zeros in omega (arith, up, zeros, few)

  pub all_ended : (end : ℕ) → Ended (string_count bytes) end → IsEndOfStrings start bytes end
  all_ended end ended = record {
    start = ended.low;
    inside = ended.inside;
    strings = λ offset from less. (
      λ before. ended.fewer offset from before,
      λ few. elim (cases_lt offset end) [
        | inl early ↦ early
        | inr late ↦ let up = not_fewer end offset ended.low late (omega arith) in let zeros = ended.zeros in absurd (omega (arith, up, zeros, few))
      ],
    );
  }
