-- First broken rules of small universal files.
use Rattle.std.proofs.Common.{◌≡◌, ℕ, suc, zero, ◌+◌, ◌<◌, ◌⊎◌, List, [], ◌∷◌, refl, subst, arith, lit≤, inl, inr, ⊎_elim}
use Rattle.macho_fields.specs.Universal.{IsUniversal}
use Rattle.macho_fields.specs.Rules.{BreaksFile}
use Rattle.macho_fields.specs.Layers.{IsLeast}
use Rattle.macho_fields.specs.First.{rank, IsBrokenIn, IsBefore, IsFirstBroken}
use Rattle.macho_fields.specs.declared.rule.Rule.{Rule}
use Rattle.macho_fields.specs.declared.rule.Rule.TheVariants as rule
use Rattle.macho_fields.proofs.Ranks.{rank_determines_rule}
use Rattle.macho_fields.proofs.Lists.{any_nil}

first_in_file : (file : List ℕ) (r : Rule) (place : ℕ) → IsLeast (BreaksFile file) (record { rule = r; place = place }) → IsFirstBroken file (record { rule = r; place = place })
first_in_file file r place least = (record { scope = 0; rule = r; place = place }, least.0, (λ other. none_before other.scope other.rule other.place), refl, zeroth)
  where
    zeroth : place ≡ 0 + place
    zeroth = omega arith

    none_before : (scope : ℕ) (other : Rule) (at : ℕ) → IsBrokenIn file scope other at → ¬ IsBefore (record { scope = scope; rule = other; place = at }) (record { scope = 0; rule = r; place = place })
    none_before zero other at h (inl less) = absurd (omega arith)
    none_before zero other at h (inr later) = least.1 other at h later.1
    none_before (suc k) other at h (inl less) = absurd (omega arith)
    none_before (suc k) other at h (inr later) = let e = later.0 in absurd (omega arith)

abbrev big_four : ℕ → List ℕ
big_four n = 0 ∷ 0 ∷ 0 ∷ n ∷ []

abbrev no_slices : List ℕ
no_slices = 0xca ∷ 0xfe ∷ 0xba ∷ 0xbe ∷ 0 ∷ 0 ∷ 0 ∷ 0 ∷ []

universal : IsUniversal no_slices
universal = (lit≤ tt, refl)

no_slices_keeps : (r : Rule) (at : ℕ) → rank r < rank rule.FatEmpty → ¬ BreaksFile no_slices r at
no_slices_keeps rule.Magic at less h = h.1 (inl universal)
no_slices_keeps rule.FatTruncated at less h = ⊎_elim (λ k. let p : 8 < 8 = k in absurd (omega arith)) (λ k. let p : 8 < 8 = k in absurd (omega arith)) h.2
no_slices_keeps rule.FatSliceOutside at less (u, (k, low, e, h)) = let p : k < 0 = low in absurd (omega arith)
no_slices_keeps rule.FatSliceInTable at less (u, (k, low, e, h)) = let p : k < 0 = low in absurd (omega arith)
no_slices_keeps rule.FatAlign at less (u, (k, low, e, h)) = let p : k < 0 = low in absurd (omega arith)
no_slices_keeps rule.FatOverlap at less (u, (k, low, e, h)) = let p : k < 0 = low in absurd (omega arith)
no_slices_keeps rule.FatDuplicate at less (u, (k, low, e, h)) = let p : k < 0 = low in absurd (omega arith)
no_slices_keeps rule.FatSliceMagic at less h = any_nil _ h.1
no_slices_keeps other at less h = absurd (omega arith)

pub table_of_no_slices : IsFirstBroken no_slices (record { rule = rule.FatEmpty; place = 4 })
table_of_no_slices = first_in_file no_slices rule.FatEmpty 4 ((refl, universal, λ k d h. absurd (let p : k < 0 = h in omega arith)), least)
  where
    least : (other : Rule) (at : ℕ) → BreaksFile no_slices other at → ¬ ((rank other < rank rule.FatEmpty) ⊎ ((rank other ≡ rank rule.FatEmpty) × (at < 4)))
    least other at h (inl less) = no_slices_keeps other at less h
    least other at h (inr (e, less)) = let b = subst (λ r. BreaksFile no_slices r at) (rank_determines_rule other rule.FatEmpty e) h in let p : at ≡ 4 = b.0 in absurd (omega arith)
