-- Bound pointers whose locations are between two numbers.
use Rattle.std.proofs.Common.{◌≡◌, ◌∙◌, ℕ, ◌+◌, ◌-◌, ◌<◌, Bool, true, false, List, length, take, drop, get_or, Contains, sym, ap, subst, arith, inl, inr}
use Rattle.std.specs.List.Sorted.{IsNonDecreasingBy, IsPartitionPoint}
use Rattle.std.proofs.lemmas.Bool.{cases_lt, false≢true, lt-ltb, ltb-true}
use Rattle.std.proofs.lemmas.List.{get_or-take, get_or-drop, length-take, length-drop}
use Rattle.std.specs.Prelude.{nat_lt}
use Rattle.macho_alike.specs.Bounds.{location, IsBetween}
use Rattle.macho_alike.specs.declared.bounds.Bound.{Bound}

abbrev pub is_below : ℕ → Bound → Bool
is_below limit bound = nat_lt (location bound) limit

module _ (bounds : List Bound) (first : ℕ) where
  -- those from one on
  abbrev pub rest : List Bound
  rest = take (length bounds - first) (drop first bounds)

  rest_long : length rest ≡ length bounds - first
  rest_long = omega (arith, length-take (length bounds - first) (drop first bounds), length-drop first bounds)

  rest_at : (i : ℕ) (d : Bound) → i < length bounds - first → get_or rest i d ≡ get_or bounds (first + i) d
  rest_at i d less = get_or-take (length bounds - first) (drop first bounds) i d less ∙ get_or-drop first bounds i d

  pub rest_sorted : IsNonDecreasingBy (λ (bound : Bound). location bound) bounds → IsNonDecreasingBy (λ (bound : Bound). location bound) rest
  rest_sorted sorted i j d most less =
      let within : j < length bounds - first = omega (arith, less, rest_long) in
      rw (rest_at i d (omega (arith, most, within)), rest_at j d within) (sorted (first + i) (first + j) d (omega (arith, most)) (omega (arith, within)))

  module _ (low high count : ℕ) (point : IsPartitionPoint (λ (b : Bound). is_below low b ≡ true) (λ (b : Bound). is_below low b ≡ false) bounds first)
      (next : IsPartitionPoint (λ (b : Bound). is_below high b ≡ true) (λ (b : Bound). is_below high b ≡ false) rest count) where
    pub all_between : (bound : Bound) → Contains bounds bound → IsBetween low high bound → Contains (take count rest) bound
    all_between bound (k, less, at) (up, down) = elim (cases_lt k first) [
      | inl early ↦
          let below = ltb-true _ _ (point.0 k bound (omega arith) early) in
          absurd (omega (arith, up, subst (λ (b : Bound). location b < low) at below))
      | inr late ↦
          let i : ℕ = k - first in
          let whole : first + i ≡ k = omega (arith, late) in
          let within : i < length bounds - first = omega (arith, less, late) in
          let here : get_or rest i bound ≡ bound = rest_at i bound within ∙ (ap (λ (n : ℕ). get_or bounds n bound) whole ∙ at) in
          elim (cases_lt i count) [
            | inl fits ↦ (
              i,
              omega (arith, fits, within, rest_long, length-take count rest),
              get_or-take count rest i bound fits ∙ here,
            )
            | inr past ↦
                let not_below = next.1 i bound past (omega (arith, within, rest_long)) in
                absurd (false≢true (sym (subst (λ (b : Bound). is_below high b ≡ false) here not_below) ∙ lt-ltb _ _ down))
          ]
    ]
