-- Which pair of sorted spans has an address.
use Rattle.std.proofs.Common.{◌≡◌, ℕ, suc, zero, ◌+◌, List, [], ◌∷◌, Contains, true, Some, None, find, refl, sym, ap, subst, arith}
use Rattle.std.specs.Prelude.{nat_le, nat_lt, AllPairs}
use Rattle.std.proofs.lemmas.Bool.{le-leb, leb-true, lt-ltb, ltb-true, and_from, and_parts, false_from_ne_true}
use Rattle.macho_spans.specs.Span.{Holds, Shares}
use Rattle.macho_spans.specs.Spans.{HoldsInOne}
use Rattle.macho_spans.specs.declared.span.Span.{Span}
use Rattle.macho_rules.specs.Mapping.{holds}

module _ (address : ℕ) where
  holds_true : (pair : Span × ℕ) → Holds pair.0 address → holds address pair ≡ true
  holds_true pair (low, high) =
      and_from (nat_le pair.0.start address) (nat_lt address (pair.0.start + pair.0.len)) (le-leb pair.0.start address low) (lt-ltb address (pair.0.start + pair.0.len) high)

  holds_covers : (pair : Span × ℕ) → holds address pair ≡ true → Holds pair.0 address
  holds_covers pair is =
      let parts = and_parts (nat_le pair.0.start address) (nat_lt address (pair.0.start + pair.0.len)) is in
      (leb-true pair.0.start address parts.0, ltb-true address (pair.0.start + pair.0.len) parts.1)

  -- no pair has the address
  pub none_holds : (pairs : List (Span × ℕ)) → ¬ HoldsInOne pairs address → find (holds address) pairs ≡ None
  none_holds [] none = refl
  none_holds (pair ∷ pairs) none =
      let f = false_from_ne_true (holds address pair) (λ is. none (0, pair, omega arith, refl, holds_covers pair is)) in
      rw f (none_holds pairs (λ (k, x, less, at, here). none (suc k, x, omega arith, at, here)))

  -- of pairs that share no place, one has the address
  pub one_holds : (pairs : List (Span × ℕ)) (pair : Span × ℕ) → AllPairs (λ one later. ¬ Shares one.0 later.0) pairs
      → Contains pairs pair → Holds pair.0 address → find (holds address) pairs ≡ Some pair
  one_holds [] pair apart (k, less, at) here = absurd (omega arith)
  one_holds (first ∷ pairs) pair apart (zero, less, at) here =
      let t = holds_true first (subst (λ (found : Span × ℕ). Holds found.0 address) (sym at) here) in rw t (ap Some at)
  one_holds (first ∷ pairs) pair apart (suc k, less, at) here =
      let later = subst (λ (found : Span × ℕ). ¬ Shares first.0 found.0) at (apart 0 (suc k) pair (omega arith) less) in
      let f = false_from_ne_true (holds address first) (λ is. later (address, holds_covers first is, here)) in
      rw f (one_holds pairs pair (λ i j d below within. apart (suc i) (suc j) d (omega arith) (omega arith)) (k, omega arith, at) here)
