use Rattle.std.proofs.Common.{◌∙◌, ◌↔◌, ℕ, IsTrue, sym, subst, rules, tests, inl, inr}
use Rattle.std.specs.Prelude.{◌≢◌, not, nat_eq}
use Rattle.std.proofs.lemmas.Bool.{false≢true}
use Rattle.macho_symbols.specs.Relocations.{IsBadOf}
use Rattle.macho_symbols.specs.declared.relocations.Owner.{Owner}
use Rattle.macho_symbols.proofs.relocations.Named.is_bad.Goals as goal

pub returns-in-Section : goal.returns-in-Section
returns-in-Section c image named =
    subst (λ (owner : Owner). IsTrue c.lacks.result ↔ IsBadOf image owner c.args.relocation) (sym c.in-Section.is) (c.lacks.ensures image named)

pub returns-then-lacks : goal.returns-then-lacks
returns-then-lacks c image named =
    subst (λ (owner : Owner). IsTrue c.lacks-in-Dysymtab.result ↔ IsBadOf image owner c.args.relocation) (sym c.in-Dysymtab.is)
    (λ is. inl ((c.lacks-in-Dysymtab.ensures image named).0 is), λ _. c.if-lacks.true)

differs : (n m : ℕ) → IsTrue (not (nat_eq n m)) ↔ (n ≢ m)
differs n m = search (rules, tests)

pub returns-else-lacks : goal.returns-else-lacks
returns-else-lacks c image named =
    let length = differs c.args.relocation.length 3 in
    let found = c.lacks-in-Dysymtab.ensures image named in
    subst (λ (owner : Owner). IsTrue (not (nat_eq c.args.relocation.length 3)) ↔ IsBadOf image owner c.args.relocation) (sym c.in-Dysymtab.is) (
      λ is. inr (length.0 is),
      λ bad. elim bad [
        | inl lacks ↦ absurd (false≢true (sym c.if-lacks.false ∙ found.1 lacks))
        | inr other ↦ length.1 other
      ],
    )
