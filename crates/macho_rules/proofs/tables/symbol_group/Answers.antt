use Rattle.std.proofs.Common.{ℕ, List, Any, sym, ap, ◌∙◌, subst, lit≤, refl}
use Rattle.std.proofs.lemmas.Bool.{both_ways}
use Rattle.macho_fields.specs.Image.{commands_of}
use Rattle.macho_fields.specs.Symbol.{symbol_count, groups_of, PassesSymbols}
use Rattle.macho_fields.specs.declared.header.loader.TheConstants as loader
use Rattle.macho_fields.specs.declared.rule.Rule.TheVariants as rule
use Rattle.macho_image.specs.Symbol.{dysymtab_at}
use Rattle.macho_image.specs.declared.dysymtab.Dysymtab.{Dysymtab}
use Rattle.macho_rules.proofs.OneCommand.{no_first, first_at, one_broken, one_kept, none_kept}
use Rattle.macho_rules.proofs.tables.symbol_group.Goals as goal

abbrev Past : List ℕ → ℕ → Type 0
Past image d = Any (PassesSymbols (symbol_count image (commands_of image))) (groups_of image d)

pub returns-in_default : goal.returns-in_default
returns-in_default c =
    let image = c.args.image.now in
    none_kept image rule.SymbolGroup (lit≤ tt) c.requires loader.LC_DYSYMTAB (Past image) (λ p broken. broken) (no_first (dysymtab_at image) _ (sym c.in_default.is ∙ c.dysymtab.ensures))

pub returns-then-has_group_past : goal.returns-then-has_group_past
returns-then-has_group_past c =
    let image = c.args.image.now in
    let (d, first, same) = first_at (dysymtab_at image) _ c.in-Some.dysymtab (sym c.in-Some.is ∙ c.dysymtab.ensures) in
    let at = ap (λ (t : Dysymtab). t.place) same in
    let here = (c.has_group_past.ensures image (same ∙ ap (dysymtab_at image) (sym at))).0 c.if-has_group_past.true in
    one_broken image rule.SymbolGroup (lit≤ tt) c.requires loader.LC_DYSYMTAB (Past image) (λ p broken. broken) refl (λ p broken. broken) d first
    (subst (Past image) at (subst (λ n. Any (PassesSymbols n) (groups_of image c.in-Some.dysymtab.place)) c.symbol_count.ensures here)) c.at.result c.at.ensures.rule (c.at.ensures.place ∙ at)

pub returns : goal.returns
returns c =
    let image = c.args.image.now in
    let (d, first, same) = first_at (dysymtab_at image) _ c.in-Some.dysymtab (sym c.in-Some.is ∙ c.dysymtab.ensures) in
    let at = ap (λ (t : Dysymtab). t.place) same in
    one_kept image rule.SymbolGroup (lit≤ tt) c.requires loader.LC_DYSYMTAB (Past image) (λ p broken. broken) refl d first
    (λ past. both_ways c.has_group_past.result c.if-has_group_past.false
    ((c.has_group_past.ensures image (same ∙ ap (dysymtab_at image) (sym at))).1
    (subst (λ n. Any (PassesSymbols n) (groups_of image c.in-Some.dysymtab.place)) (sym c.symbol_count.ensures) (subst (Past image) (sym at) past))))
