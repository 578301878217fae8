use Rattle.std.proofs.Common.{◌↔◌, IsTrue, ℕ, List, sym, subst, ◌∙◌}
use Rattle.macho_fields.specs.Segment.{vmaddr}
use Rattle.macho_tables.specs.Homes.{HasTextAt}
use Rattle.macho_tables.proofs.homes.is_safe_base.Goals as goal

pub returns-then-is_constant : goal.returns-then-is_constant
returns-then-is_constant c =
    let segment = c.args.segment.now in
    let here = subst (λ (base : ℕ). IsTrue c.has_text_at.result ↔ HasTextAt c.args.image.now base) c.vmaddr.ensures c.has_text_at.ensures in
    let text = subst (λ (image : List ℕ). IsTrue c.has_text_at.result ↔ HasTextAt image (vmaddr segment.image segment.place)) (sym c.requires) here in (
      λ is. (sym c.is_constant.ensures ∙ c.if-is_constant.true, text.0 is),
      λ safe. text.1 safe.1,
    )
