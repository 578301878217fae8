-- A file has one first break, of the rules of any profile.
use Rattle.std.proofs.Common.{◌≡◌, ℕ, ◌+◌, List, sym, ap, ap₂, ◌∙◌, inl, inr}
use Rattle.std.proofs.lemmas.Bool.{cases_order}
use Rattle.macho_fields.specs.First.{rank, Fault, IsBefore, IsFirstOfAll, scope_start}
use Rattle.macho_fields.specs.declared.rule.Rule.{Rule}
use Rattle.macho_fields.specs.declared.rule.Break.{Break}
use Rattle.macho_fields.proofs.Ranks.{rank_determines_rule}

-- two faults, neither of them before the other
module _ (f g : Fault) (p : ¬ IsBefore f g) (q : ¬ IsBefore g f) where
  same_scope : f.scope ≡ g.scope
  same_scope = elim (cases_order f.scope g.scope) [ inl e ↦ e | inr (inl h) ↦ absurd (p (inl h)) | inr (inr h) ↦ absurd (q (inl h)) ]

  same_rule : f.rule ≡ g.rule
  same_rule = elim (cases_order (rank f.rule) (rank g.rule)) [
    | inl e ↦ rank_determines_rule f.rule g.rule e
    | inr (inl h) ↦ absurd (p (inr (same_scope, inl h)))
    | inr (inr h) ↦ absurd (q (inr (sym same_scope, inl h)))
  ]

  same_place : f.place ≡ g.place
  same_place = elim (cases_order f.place g.place) [
    | inl e ↦ e
    | inr (inl h) ↦ absurd (p (inr (same_scope, inr (ap rank same_rule, h))))
    | inr (inr h) ↦ absurd (q (inr (sym same_scope, inr (ap rank (sym same_rule), h))))
  ]

pub first_is_unique : (BrokenIn : ℕ → Rule → ℕ → Type 0) (file : List ℕ) (a b : Break) → IsFirstOfAll BrokenIn file a → IsFirstOfAll BrokenIn file b → a ≡ b
first_is_unique BrokenIn file a b (f, is_f, least_f, rule_f, place_f) (g, is_g, least_g, rule_g, place_g) =
    let p = least_g f is_f in
    let q = least_f g is_g in
    let scope : f.scope ≡ g.scope = same_scope f g p q in
    let place : f.place ≡ g.place = same_place f g p q in
    let start = ap₂ (λ s n. scope_start file s + n) scope place in
    ap₂ (λ (r : Rule) (n : ℕ). let made : Break = record { rule = r; place = n } in made) (rule_f ∙ (same_rule f g p q ∙ sym rule_g)) (place_f ∙ (start ∙ sym place_g))
