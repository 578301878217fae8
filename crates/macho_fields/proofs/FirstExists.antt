-- What is broken is broken first somewhere: a fault before which nothing is broken is the first.
use Rattle.std.proofs.Common.{◌≡◌, ℕ, suc, zero, ◌+◌, ◌<◌, ◌↔◌, List, refl, ◌∙◌, arith, inl, inr}
use Rattle.macho_fields.specs.First.{rank, Fault, IsBefore, IsFirstOfAll, NoneIsBroken, scope_start}
use Rattle.macho_fields.specs.declared.rule.Rule.{Rule}
use Rattle.macho_fields.specs.declared.rule.Break.{Break}

-- Of a file with no first break
module _ (BrokenIn : ℕ → Rule → ℕ → Type 0) (file : List ℕ) (none : ¬ ((b : Break) × IsFirstOfAll BrokenIn file b)) where
  abbrev IsBroken : Fault → Type 0
  IsBroken fault = BrokenIn fault.scope fault.rule fault.place

  -- nothing is broken where nothing earlier is
  kept_after : (fault : Fault) → ((other : Fault) → IsBefore other fault → ¬ IsBroken other) → ¬ IsBroken fault
  kept_after fault before broken =
      none (record { rule = fault.rule; place = scope_start file fault.scope + fault.place }, (fault, broken, (λ other h earlier. before other earlier h), refl, refl))

  -- in turn at each place of a rule, for each rule of a scope, and in each scope
  places_kept : (scope q : ℕ) → ((f : Fault) → f.scope < scope → ¬ IsBroken f)
      → ((f : Fault) → f.scope ≡ scope → rank f.rule < q → ¬ IsBroken f)
      → (n : ℕ) (f : Fault) → f.scope ≡ scope → rank f.rule ≡ q → f.place < n → ¬ IsBroken f
  places_kept scope q scopes ranks zero f s r less = absurd (omega arith)
  places_kept scope q scopes ranks (suc n) f s r less = kept_after f (λ other earlier. elim earlier [
    | inl lower ↦ scopes other (omega (arith, s))
    | inr (same, inl lower) ↦ ranks other (same ∙ s) (omega (arith, r))
    | inr (same, inr (alike, lower)) ↦ places_kept scope q scopes ranks n other (same ∙ s) (alike ∙ r) (omega arith)
  ])

  ranks_kept : (scope : ℕ) → ((f : Fault) → f.scope < scope → ¬ IsBroken f) → (n : ℕ) (f : Fault) → f.scope ≡ scope → rank f.rule < n → ¬ IsBroken f
  ranks_kept scope scopes zero f s less = absurd (omega arith)
  ranks_kept scope scopes (suc n) f s less = places_kept scope (rank f.rule) scopes (λ other t lower. ranks_kept scope scopes n other t (omega arith)) (suc f.place) f s refl (omega arith)

  scopes_kept : (n : ℕ) (f : Fault) → f.scope < n → ¬ IsBroken f
  scopes_kept zero f less = absurd (omega arith)
  scopes_kept (suc n) f less = ranks_kept f.scope (λ other lower. scopes_kept n other (omega arith)) (suc (rank f.rule)) f refl (omega arith)

pub unbroken_where_none_first : (BrokenIn : ℕ → Rule → ℕ → Type 0) (file : List ℕ) → NoneIsBroken BrokenIn ↔ ¬ ((b : Break) × IsFirstOfAll BrokenIn file b)
unbroken_where_none_first BrokenIn file = (none_first, λ none fault. scopes_kept BrokenIn file none (suc fault.scope) fault (omega arith))
  where
    none_first : NoneIsBroken BrokenIn → ¬ ((b : Break) × IsFirstOfAll BrokenIn file b)
    none_first unbroken (b, (fault, broken, first, same, at)) = unbroken fault broken
