use Rattle.std.proofs.Common.{List, ℕ, sym, subst}
use Rattle.macho_explain.specs.SectionItems.{HasSectionItem}
use Rattle.macho_explain.specs.declared.section_item.Item.TheVariants as items
use Rattle.macho_explain.proofs.functions.init_offset.Goals as goal

pub returns-in_err-item : goal.returns-in_err-item
returns-in_err-item c =
    rw c.from_residual-in_err-item.ensures (λ s. c.in_err-item.ensures
    (subst (λ (b : List ℕ). HasSectionItem items.InitOffset b c.args.sliced.now.place) (sym c.in_ok-image.ensures.1) s.2))
