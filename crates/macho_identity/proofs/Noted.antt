-- A table of the numbers that the first of many items have.
use Rattle.std.proofs.Common.{◌≡◌, ◌↔◌, ℕ, zero, suc, ◌+◌, ◌<◌, List, length, get_or, replicate, Bool, true, false, Option, None, Some, refl, sym, ap, ◌∙◌, subst, arith, inl, inr}
use Rattle.std.proofs.lemmas.Bool.{cases_lt, cases_eq, false≢true}
use Rattle.std.proofs.lemmas.Grind.{get_or-set_at}
use Rattle.std.proofs.lemmas.List.{length-set, get_or-set_other}
use Rattle.std.proofs.lemmas.Option.{same_Some, none-some}
use Rattle.std.proofs.Math.ListN.{set}

no_number : (size n : ℕ) → get_or (replicate size false) n false ≡ false
no_number zero n = refl
no_number (suc size) zero = refl
no_number (suc size) (suc n) = no_number size n

size_of : (size : ℕ) → length (replicate size false) ≡ size
size_of zero = refl
size_of (suc size) = ap suc (size_of size)

module _ (number : ℕ → Option ℕ) where
  -- one of the first items has the number
  abbrev pub HasNumber : ℕ → ℕ → Type 0
  HasNumber count n = (j : ℕ) × (j < count) × (number j ≡ Some n)

  -- it is noted of each number whether one of them has it
  pub record AreNoted (size : ℕ) (count : ℕ) (table : List Bool) : Type 0 where
    pub length : length table ≡ size
    pub each : (n : ℕ) → n < size → (get_or table n false ≡ true) ↔ HasNumber count n

  -- before the first item
  pub none_noted : (size : ℕ) → AreNoted size 0 (replicate size false)
  none_noted size = record {
    length = size_of size;
    each = λ n less. (λ has. absurd (false≢true (sym (no_number size n) ∙ has)), λ (j, below, at). absurd (omega (arith, below)));
  }

  module _ (size k : ℕ) (table : List Bool) (are : AreNoted size k table) where
    further : (n : ℕ) → HasNumber k n → HasNumber (k + 1) n
    further n (j, less, at) = (j, omega (arith, less), at)

    -- the item k has no other number than this
    only_here : (n : ℕ) → ¬ (number k ≡ Some n) → HasNumber (k + 1) n → HasNumber k n
    only_here n other (j, less, at) = elim (cases_lt j k) [
      | inl before ↦ (j, before, at)
      | inr late ↦ let same : j ≡ k = omega (arith, less, late) in absurd (other (subst (λ i. number i ≡ Some n) same at))
    ]

    -- the item k has no number
    pub none_more : number k ≡ None → AreNoted size (k + 1) table
    none_more none = record {
      length = are.length;
      each = λ n less. (
        λ has. further n ((are.each n less).0 has),
        λ has. (are.each n less).1 (only_here n (λ at. none-some n (sym none ∙ at)) has),
      );
    }

    -- it has one
    pub one_more : (n : ℕ) → n < size → number k ≡ Some n → AreNoted size (k + 1) (set table n true)
    one_more n fits is = record { length = length-set table n true ∙ are.length; each = each }
      where
        each : (m : ℕ) → m < size → (get_or (set table n true) m false ≡ true) ↔ HasNumber (k + 1) m
        each m less = elim (cases_eq m n) [
          | inl same ↦ (
            λ has. (k, omega arith, is ∙ ap (λ i. Some i) (sym same)),
            λ has. get_or-set_at table n m true false same (let size_is = are.length in omega (arith, fits, size_is)),
          )
          | inr other ↦
              let kept = get_or-set_other table n m true false other in (
                λ has. further m ((are.each m less).0 (sym kept ∙ has)),
                λ has. kept ∙ (are.each m less).1 (only_here m (λ at. other (same_Some m n (sym at ∙ is))) has),
              )
        ]

    -- an earlier item has that number, or none has
    pub has_noted : (n : ℕ) → n < size → get_or table n false ≡ true → HasNumber k n
    has_noted n fits has = (are.each n fits).0 has

    pub free_noted : (n : ℕ) → n < size → get_or table n false ≡ false → ¬ HasNumber k n
    free_noted n fits free has = false≢true (sym free ∙ (are.each n fits).1 has)
