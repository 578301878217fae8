-- What a layer decides, from what it decides rule by rule.
use Rattle.std.proofs.Common.{◌≡◌, ℕ, ◌+◌, ◌≤◌, ◌<◌, ◌⊎◌, sym, ap, ◌∙◌, subst, arith, inl, inr}
use Rattle.std.proofs.lemmas.Bool.{cases_lt}
use Rattle.macho_fields.specs.First.{rank}
use Rattle.macho_fields.specs.Layers.{IsLeast, KeptBelow}
use Rattle.macho_fields.specs.declared.rule.Rule.{Rule}
use Rattle.macho_fields.specs.declared.rule.Break.{Break}
use Rattle.macho_fields.proofs.Ranks.{rank_determines_rule}

-- one rule more
pub kept_more : (breaks : Rule → ℕ → Type 0) (r : Rule) → KeptBelow breaks (rank r) → ((place : ℕ) → ¬ breaks r place) → KeptBelow breaks (rank r + 1)
kept_more breaks r below here other place less broken =
    elim (least_or_same (rank other) (rank r) less) [
      | inl lower ↦ below other place lower broken
      | inr same ↦ here place (subst (λ q. breaks q place) (rank_determines_rule other r same) broken)
    ]
  where
    least_or_same : (a b : ℕ) → a < b + 1 → (a < b) ⊎ (a ≡ b)
    least_or_same a b less = elim (cases_lt a b) [ inl lower ↦ inl lower | inr upper ↦ inr (omega arith) ]

-- the first rule that is broken, and its least place
pub least_at : (breaks : Rule → ℕ → Type 0) (r : Rule) (b : Break) → KeptBelow breaks (rank r) → (b.rule ≡ r) × breaks r b.place × ((place : ℕ) → breaks r place → b.place ≤ place) → IsLeast breaks b
least_at breaks r b below (same, here, least) = (subst (λ q. breaks q b.place) (sym same) here, none_before)
  where
    ranks : rank b.rule ≡ rank r
    ranks = ap rank same

    none_before : (other : Rule) (place : ℕ) → breaks other place → ¬ ((rank other < rank b.rule) ⊎ ((rank other ≡ rank b.rule) × (place < b.place)))
    none_before other place broken (inl lower) = below other place (omega (arith, ranks)) broken
    none_before other place broken (inr (rank_same, lower)) =
        let known = least place (subst (λ q. breaks q place) (rank_determines_rule other r (rank_same ∙ ranks)) broken) in omega arith
