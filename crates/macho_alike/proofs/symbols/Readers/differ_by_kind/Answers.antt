use Rattle.std.proofs.Common.{◌≡◌, ◌∙◌, ◌↔◌, ◌/◌, ℕ, Option, None, Some, IsTrue, refl, sym, subst}
use Rattle.std.specs.Prelude.{IsSomeAnd}
use Rattle.std.specs.Option.{option_map}
use Rattle.std.proofs.lemmas.Option.{same_Some}
use Rattle.macho_fields.specs.Image.{commands_of}
use Rattle.macho_fields.specs.declared.header.loader.TheConstants.{LC_DYSYMTAB}
use Rattle.macho_image.specs.Command.{first_with_cmd}
use Rattle.macho_image.specs.Symbol.{dysymtab_at}
use Rattle.macho_image.specs.declared.dysymtab.Dysymtab.{Dysymtab}
use Rattle.macho_alike.specs.Symbols.{IsMisgrouped, symbol_index}
use Rattle.macho_alike.proofs.symbols.Readers.differ_by_kind.Goals as goal

-- a fact about the groups is one about the command's groups
seen : (at : ℕ → Dysymtab) (first : Option ℕ) (groups : Dysymtab) → Some groups ≡ option_map at first → (P : Dysymtab → Type 0) → P groups ↔ IsSomeAnd first (λ d. P (at d))
seen at None groups is P = absurd (cc)
seen at (Some d) groups is P = let same = same_Some groups (at d) is in (λ here. subst P same here, λ here. subst P (sym same) here)

pub returns-in-Some : goal.returns-in-Some
returns-in-Some c image symtab are =
    let symbol = c.args.symbol in
    let index : c.saturating_sub-index.result / 16 ≡ symbol_index image symtab symbol = rw (c.saturating_sub-index.ensures, are.symbols) refl in
    let says = subst (λ (k : ℕ). IsTrue c.is_misgrouped.result ↔ IsMisgrouped c.in-Some.groups k symbol.kind) index c.is_misgrouped.ensures in
    let here = seen (dysymtab_at image) (first_with_cmd image LC_DYSYMTAB (commands_of image)) c.in-Some.groups (sym c.in-Some.is ∙ are.groups)
    (λ (d : Dysymtab). IsMisgrouped d (symbol_index image symtab symbol) symbol.kind) in
    (λ is. here.0 (says.0 is), λ has. says.1 (here.1 has))
