-- A string that no zero byte ends, and one that begins past the end.
use Rattle.std.proofs.Common.{◌≡◌, ℕ, suc, ◌+◌, ◌-◌, ◌≤◌, ◌<◌, List, [], ◌∷◌, length, drop, take, get_or, Bool, false, refl, sym, ap, ◌∙◌, arith, inl, inr}
use Rattle.std.specs.Prelude.{◌==◌, min, not, if◌then◌else◌}
use Rattle.std.specs.List.{before_first, prefix_len}
use Rattle.std.proofs.lemmas.Bool.{cases_lt, ne_eqb}
use Rattle.std.proofs.lemmas.List.{drop_all, take_all, length-drop, get_or-drop}
use Rattle.macho_fields.specs.Field.{part, string_from, HasZero}

-- past the end all strings are empty
pub string_past_end : (bytes : List ℕ) (one other : ℕ) → length bytes ≤ one → length bytes ≤ other → string_from one bytes ≡ string_from other bytes
string_past_end bytes one other past also = ap (before_first (λ byte. byte == 0)) (drop_all one bytes past ∙ sym (drop_all other bytes also))

-- a place past the end may be taken for the end
pub begun : (bytes : List ℕ) (place start : ℕ) → start ≡ min place (length bytes) → string_from start bytes ≡ string_from place bytes
begun bytes place start is = elim (cases_lt (length bytes) place) [
  | inl past ↦ string_past_end bytes start place (omega (arith, is, past)) (omega (arith, past))
  | inr within ↦ let same : start ≡ place = omega (arith, is, within) in ap (λ n. string_from n bytes) same
]

-- no element of the list is zero, so all stand before the first that is
kept : (x : ℕ) (xs : List ℕ) → (x == 0) ≡ false → before_first (λ byte. byte == 0) (x ∷ xs) ≡ x ∷ before_first (λ byte. byte == 0) xs
kept x xs other =
    let count = prefix_len (λ byte. not (byte == 0)) xs in
    let one_more : 1 + count ≡ suc count = omega arith in
    ap (λ (zero_here : Bool). take (if not zero_here then 1 + count else 0) (x ∷ xs)) other ∙ ap (λ n. take n (x ∷ xs)) one_more

all_before : (xs : List ℕ) → ((i : ℕ) → i < length xs → ¬ (get_or xs i 0 ≡ 0)) → before_first (λ byte. byte == 0) xs ≡ xs
all_before [] none = refl
all_before (x ∷ xs) none =
    kept x xs (ne_eqb x 0 (none 0 (omega arith))) ∙ ap (λ rest. x ∷ rest) (all_before xs (λ i less. none (suc i) (omega (arith, less))))

-- the bytes from a place on, or from the end if it is past that, which have no zero
pub unended : (bytes : List ℕ) (place start len : ℕ) → start ≡ min place (length bytes) → len ≡ length bytes - start → ¬ HasZero bytes start (start + len) → part start len bytes ≡ string_from place bytes
unended bytes place start len is left none =
    let size = length-drop start bytes in
    let rest : part start len bytes ≡ drop start bytes = take_all len (drop start bytes) (omega (arith, size, left)) in
    let nonzero : (i : ℕ) → i < length (drop start bytes) → ¬ (get_or (drop start bytes) i 0 ≡ 0) =
    λ i less zero_here. none (start + i, omega arith, omega (arith, less, size, left), omega (arith, less, size), sym (get_or-drop start bytes i 0) ∙ zero_here) in
    rest ∙ (sym (all_before (drop start bytes) nonzero) ∙ begun bytes place start is)
