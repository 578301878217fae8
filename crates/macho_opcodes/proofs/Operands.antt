-- The operands of an opcode: names, and the zeros after the last opcode.
use Rattle.std.proofs.Common.{◌≡◌, ℕ, suc, ◌+◌, ◌-◌, ◌≤◌, ◌<◌, ◌==◌, Bool, true, false, List, [], ◌∷◌, length, drop, get_or, slice_index, slice_get, Some, None, inl, inr, refl, sym, ap, ◌∙◌, arith, length-drop}
use Rattle.std.specs.List.{list_all}
use Rattle.std.proofs.lemmas.Bool.{cases_eq, eq-eqb, ne_eqb, lt-ltb, le-ltb}
use Rattle.std.proofs.lemmas.List.{get_or-drop}
use Rattle.std.proofs.lemmas.List.Folds.{list_all_at}
use Rattle.std.proofs.lemmas.Option.{slice_get_within}
use Rattle.macho_fields.specs.Field.{string_from, HasZero}
use Rattle.macho_fields.specs.NonZero.{IsNonZero, HasNonZero}
use Rattle.macho_tables.proofs.StringSizes.{ended_size, endless_size}
use Rattle.macho_opcodes.specs.Steps.{with_name, last_step}
use Rattle.macho_opcodes.specs.declared.step.Step.TheVariants as step

abbrev is_zero : ℕ → Bool
is_zero byte = byte == 0

all_zero : (bytes : List ℕ) → ((k : ℕ) → k < length bytes → get_or bytes k 0 ≡ 0) → list_all is_zero bytes ≡ true
all_zero [] zeros = refl
all_zero (byte ∷ bytes) zeros =
    let first : is_zero byte ≡ true = eq-eqb byte 0 (zeros 0 (omega arith)) in
    let others = all_zero bytes (λ k below. zeros (suc k) (omega arith)) in rw (first, others) refl

-- nothing but zeros follows
pub last_ends : (stream : List ℕ) (next : ℕ) → (HasNonZero stream next (next + length stream) → ⊥)
    → last_step stream next ≡ Some (step.Done, length stream)
last_ends stream next none =
    let size = length-drop next stream in
    let all : list_all is_zero (drop next stream) ≡ true =
    all_zero (drop next stream) (λ k below. get_or-drop next stream k 0 ∙ zero_at (next + k) (omega arith) (omega arith) (omega arith)) in
    rw all refl
  where
    zero_at : (place : ℕ) → next ≤ place → place < next + length stream → place < length stream → get_or stream place 0 ≡ 0
    zero_at place from before inside =
        elim (cases_eq (get_or stream place 0) 0) [
          | inl is ↦ is
          | inr more ↦ absurd (none (place, from, before, (inside, more)))
        ]

-- a byte that is not zero follows
pub last_fails : (stream : List ℕ) (next place : ℕ) → next ≤ place → IsNonZero stream place → last_step stream next ≡ None
last_fails stream next place from there =
    let size = length-drop next stream in
    let k = place - next in
    let same : next + (place - next) ≡ place = omega arith in
    let here : is_zero (get_or (drop next stream) (place - next) 0) ≡ false =
    ne_eqb _ 0 (λ is. there.1 (ap (slice_index stream) (sym same) ∙ (sym (get_or-drop next stream (place - next) 0) ∙ is))) in
    let all = list_all_at is_zero (drop next stream) (place - next) 0 (omega arith) here in rw all refl

-- a name ends at its first zero byte
pub name_ends : (flags : ℕ) (stream : List ℕ) (name z : ℕ) → name ≤ z → slice_get stream z ≡ Some 0 → (HasZero stream name z → ⊥)
    → with_name flags stream name ≡ Some (step.SetSymbol (record { start = name; len = z + 1 - name }) flags, z + 1)
name_ends flags stream name z from there first = rw (ended_size stream name z from there first, lt-ltb z (length stream) (slice_get_within stream z 0 there)) refl

-- a name without a zero byte does not end
pub name_fails : (flags : ℕ) (stream : List ℕ) (name : ℕ) → (HasZero stream name (name + length stream) → ⊥)
    → with_name flags stream name ≡ None
name_fails flags stream name none =
    let size = endless_size stream name none in
    let past : length stream ≤ name + length (string_from name stream) = omega (arith, size) in
    rw (le-ltb _ _ past) refl
