use Rattle.std.proofs.Common.{◌≡◌, ◌∙◌, ℕ, ◌+◌, ◌*◌, ◌<◌, List, Option, None, Some, arith, sym, subst}
use Rattle.std.specs.Prelude.{IsSomeAnd}
use Rattle.std.specs.Option.{option_map}
use Rattle.macho_fields.specs.Image.{commands_of}
use Rattle.macho_fields.specs.declared.header.loader.TheConstants as loader
use Rattle.macho_image.specs.Command.{first_with_cmd}
use Rattle.macho_image.specs.Symbol.{dysymtab_at}
use Rattle.macho_image.specs.declared.dysymtab.Dysymtab.{Dysymtab}
use Rattle.macho_explain.proofs.symbol.indirect_here.Goals as goal

-- one of its entries is at the place
abbrev Entry : ℕ → Dysymtab → Type 0
Entry place dysymtab = (k : ℕ) × (k < dysymtab.nindirectsyms) × (place ≡ dysymtab.indirectsymoff + loader.INDIRECT_ENTRY_SIZE * k)

of_it : (found : Option Dysymtab) (dysymtab : Dysymtab) (place : ℕ) → found ≡ Some dysymtab → IsSomeAnd found (Entry place) → Entry place dysymtab
of_it found dysymtab place is has = subst (λ (o : Option Dysymtab). IsSomeAnd o (Entry place)) is has

pub returns-in_err-dysymtab : goal.returns-in_err-dysymtab
returns-in_err-dysymtab c =
    let none = subst (λ (b : List ℕ). option_map (dysymtab_at b) (first_with_cmd b loader.LC_DYSYMTAB (commands_of b)) ≡ None) c.in_ok-open.ensures.1 (sym c.dysymtab.ensures ∙ c.in_err-dysymtab.was) in
    rw c.from_residual-in_err-dysymtab.ensures (λ s. subst (λ (o : Option Dysymtab). IsSomeAnd o (Entry c.args.sliced.now.place)) none s.1)

pub returns-in_err-offset : goal.returns-in_err-offset
returns-in_err-offset c =
    let dysymtab = c.in_ok-dysymtab.dysymtab in
    let some = subst (λ (b : List ℕ). option_map (dysymtab_at b) (first_with_cmd b loader.LC_DYSYMTAB (commands_of b)) ≡ Some dysymtab) c.in_ok-open.ensures.1 (sym c.dysymtab.ensures ∙ c.in_ok-dysymtab.was) in
    rw c.from_residual-in_err-offset.ensures (λ s.
    let (k, less, at) = of_it _ dysymtab c.args.sliced.now.place some s.1 in
    let past = c.in_err-offset.ensures in omega (arith, at, past))
