use Rattle.std.proofs.Common.{◌⊎◌, inl, inr}
use Rattle.macho_explain.specs.SectionItems.{HasDysymtabRelocation, HasSectionItem}
use Rattle.macho_explain.specs.declared.section_item.Item.TheVariants as items
use Rattle.macho_explain.proofs.Found.{found_as}
use Rattle.macho_explain.proofs.relocation.table_here.Goals as goal

pub returns-in-None : goal.returns-in-None
returns-in-None c =
    let image = c.args.image.now in
    let place = c.args.sliced.now.place in
    found_as (¬ HasDysymtabRelocation image place) (¬ (HasSectionItem items.Relocation image place ⊎ HasDysymtabRelocation image place)) (λ found. Unit {0}) (λ found. Unit {0}) c.of_dysymtab.result
    (λ none has. elim has [ inl section ↦ c.in-None.ensures section | inr dysymtab ↦ none dysymtab ]) (λ found is. is) c.of_dysymtab.ensures
