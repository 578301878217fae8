-- Strings: bytes up to the first zero byte.
use Rattle.std.proofs.Common.{◌≡◌, ℕ, suc, zero, ◌+◌, ◌-◌, ◌≤◌, ◌<◌, ◌==◌, true, false, List, [], ◌∷◌, length, take, drop, get_or, slice_index, slice_get, Bor, Option, Some, None, IfSome, sym, ap, ◌∙◌, arith, inl, inr, length-drop, length-take}
use Rattle.std.specs.Prelude.{◌≢◌}
use Rattle.std.specs.List.{position_or_len}
use Rattle.std.proofs.lemmas.Bool.{cases_lt, eq-eqb, eqb-true, ne_eqb, true≢false}
use Rattle.std.proofs.lemmas.List.{get_or-drop}
use Rattle.std.proofs.lemmas.List.Sums.{position_or_len_is, fails_before_first, passes_at_first}
use Rattle.std.proofs.lemmas.Option.{slice_get-get_or}
use Rattle.macho_fields.specs.Field.{part, string_from, HasZero, IsEnded}

-- an item that slice_get returns is in the list
got_at : (xs : List ℕ) (k x : ℕ) → slice_get xs k ≡ Some x → (k < length xs) × (slice_index xs k ≡ x)
got_at [] k x e = absurd (cc)
got_at (y ∷ ys) zero x e = (omega arith, cc)
got_at (y ∷ ys) (suc k) x e = let (less, is) = got_at ys k x e in (omega arith, is)

-- a string ends before its first zero byte
pub string_ends : (bytes : List ℕ) (start z : ℕ) → start ≤ z → slice_get bytes z ≡ Some 0 → ¬ HasZero bytes start z → part start (z - start) bytes ≡ string_from start bytes
string_ends bytes start z low at first =
    let (inside, is) = got_at bytes z 0 at in
    let before : (k : ℕ) → start ≤ k → k < z → slice_index bytes k ≢ 0 = λ k from less zero_here. first (k, from, less, omega arith, zero_here) in
    let here : start + (z - start) ≡ z = omega arith in
    let size : length (drop start bytes) ≡ length bytes - start = length-drop start bytes in
    let at_end : get_or (drop start bytes) (z - start) 0 ≡ 0 = get_or-drop start bytes (z - start) 0 ∙ (ap (slice_index bytes) here ∙ is) in
    let len : position_or_len (λ byte. byte == 0) (drop start bytes) ≡ z - start = position_or_len_is (λ byte. byte == 0) (drop start bytes) (z - start) 0 (omega arith) (not_before before)
    (λ _. eq-eqb (get_or (drop start bytes) (z - start) 0) 0 at_end) in
    ap (λ n. take n (drop start bytes)) (sym len)
  where
    not_before : ((k : ℕ) → start ≤ k → k < z → slice_index bytes k ≢ 0) → (k : ℕ) → k < z - start → (get_or (drop start bytes) k 0 == 0) ≡ false
    not_before before k less = ne_eqb (get_or (drop start bytes) k 0) 0 (λ zero_here. before (start + k) (omega arith) (omega arith) (sym (get_or-drop start bytes k 0) ∙ zero_here))

-- a part that is such a string
pub string_of_part : (bytes : List ℕ) (start len : ℕ) (got : Option (Bor (List ℕ))) → part start len bytes ≡ string_from start bytes
    → IfSome got (λ b. b.now ≡ part start len bytes) → IfSome got (λ b. b.now ≡ string_from start bytes)
string_of_part bytes start len None is h = tt
string_of_part bytes start len (Some b) is h = h ∙ is

-- where there is a zero byte, one follows the string
pub zero_after : (bytes : List ℕ) (start end : ℕ) → HasZero bytes start end → IsEnded bytes start end
zero_after bytes start end (z, low, high, inside, is) =
    let count : length (string_from start bytes) ≡ len = string_len in
    (omega (arith, count, not_after), slice_get-get_or bytes (start + length (string_from start bytes)) 0 (omega (arith, count, not_after)) ∙ ap Some at_end)
  where
    rest : List ℕ
    rest = drop start bytes

    len : ℕ
    len = position_or_len (λ byte. byte == 0) rest

    size : length rest ≡ length bytes - start
    size = length-drop start bytes

    zero_here : (get_or rest (z - start) 0 == 0) ≡ true
    zero_here = let at : start + (z - start) ≡ z = omega arith in eq-eqb (get_or rest (z - start) 0) 0 (get_or-drop start bytes (z - start) 0 ∙ (ap (slice_index bytes) at ∙ is))

    not_after : len ≤ z - start
    not_after = elim (cases_lt (z - start) len) [
      | inl before ↦ absurd (true≢false (sym zero_here ∙ fails_before_first (λ byte. byte == 0) rest (z - start) 0 before))
      | inr by ↦ by
    ]

    string_len : length (take len rest) ≡ len
    string_len = omega (arith, length-take len rest, not_after, size)

    at_end : slice_index bytes (start + length (take len rest)) ≡ 0
    at_end =
        ap (λ n. slice_index bytes (start + n)) string_len
        ∙ (sym (get_or-drop start bytes len 0) ∙ eqb-true (get_or rest len 0) 0 (passes_at_first (λ byte. byte == 0) rest 0 (omega (arith, not_after, size))))
