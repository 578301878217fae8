-- A text that no zero byte ends.
use Rattle.std.proofs.Common.{◌≡◌, ℕ, suc, ◌+◌, ◌-◌, ◌≤◌, ◌<◌, List, [], ◌∷◌, length, drop, take, get_or, Bool, false, refl, sym, ap, ◌∙◌, arith, inl, inr}
use Rattle.std.specs.Prelude.{◌==◌, min, not, if◌then◌else◌}
use Rattle.std.specs.List.{before_first, prefix_len}
use Rattle.std.proofs.lemmas.Bool.{cases_lt, ne_eqb}
use Rattle.std.proofs.lemmas.List.{drop_all, take_all, length-drop, get_or-drop}
use Rattle.macho_fields.specs.Field.{part, string_from, HasZero}

-- no element of the list is zero, so all stand before the first that is
kept : (x : ℕ) (xs : List ℕ) → (x == 0) ≡ false → before_first (λ byte. byte == 0) (x ∷ xs) ≡ x ∷ before_first (λ byte. byte == 0) xs
kept x xs other =
    let count = prefix_len (λ byte. not (byte == 0)) xs in
    let one_more : 1 + count ≡ suc count = omega arith in
    ap (λ (zero_here : Bool). take (if not zero_here then 1 + count else 0) (x ∷ xs)) other ∙ ap (λ n. take n (x ∷ xs)) one_more

all_before : (xs : List ℕ) → ((i : ℕ) → i < length xs → ¬ (get_or xs i 0 ≡ 0)) → before_first (λ byte. byte == 0) xs ≡ xs
all_before [] none = refl
all_before (x ∷ xs) none =
    kept x xs (ne_eqb x 0 (none 0 (omega arith))) ∙ ap (λ rest. x ∷ rest) (all_before xs (λ i less. none (suc i) (omega (arith, less))))

-- the bytes from an offset on, or from the end if it is past that, which have no zero
pub unended : (bytes : List ℕ) (offset start len : ℕ) → start ≡ min offset (length bytes) → len ≡ length bytes - start → ¬ HasZero bytes start (start + len) → part start len bytes ≡ string_from offset bytes
unended bytes offset start len is left none = elim (cases_lt (length bytes) offset) [
  | inl past ↦
      let end : length bytes ≤ start = omega (arith, is, past) in
      ap (take len) (drop_all start bytes end) ∙ (take_all len [] (omega arith) ∙ ap (before_first (λ byte. byte == 0)) (sym (drop_all offset bytes (omega (arith, past)))))
  | inr within ↦
      let same : start ≡ offset = omega (arith, is, within) in
      let size = length-drop start bytes in
      let rest : part start len bytes ≡ drop start bytes = take_all len (drop start bytes) (omega (arith, size, left)) in
      let nonzero : (i : ℕ) → i < length (drop start bytes) → ¬ (get_or (drop start bytes) i 0 ≡ 0) =
      λ i less zero_here. none (start + i, omega arith, omega (arith, less, size, left), omega (arith, less, size), sym (get_or-drop start bytes i 0) ∙ zero_here) in
      rest ∙ (sym (all_before (drop start bytes) nonzero) ∙ ap (λ n. string_from n bytes) same)
]
