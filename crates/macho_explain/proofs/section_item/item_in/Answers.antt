use Rattle.std.proofs.Common.{arith}
use Rattle.macho_fields.specs.Segment.{reloff, nreloc}
use Rattle.macho_explain.specs.SectionItems.{HasItem}
use Rattle.macho_explain.specs.declared.section_item.Item.TheVariants as items
use Rattle.macho_explain.proofs.SectionItems.{NoneAt, elsewhere}
use Rattle.macho_explain.proofs.Found.{found_as}
use Rattle.macho_explain.proofs.section_item.item_in.Goals as goal

pub returns-in-Relocation : goal.returns-in-Relocation
returns-in-Relocation c =
    let s = c.args.section.now in
    let start = c.reloff-start.ensures.number in
    let count = c.nreloc-count.ensures.number in
    rw c.in-Relocation.is (found_as (NoneAt c.reloff-start.result 8 c.nreloc-count.result c.args.place) (¬ HasItem items.Relocation c.args.place s) _ (λ index. Unit {0}) c.item_at.result
    (elsewhere s.image (reloff s.image s.place) c.reloff-start.result (nreloc s.image s.place) c.nreloc-count.result c.args.place start count) (λ index is. tt) c.item_at.ensures)

pub returns-else-not-has_offsets : goal.returns-else-not-has_offsets
returns-else-not-has_offsets c =
    let s = c.args.section.now in
    let start = c.offset.ensures.number in
    let size = c.size.ensures in
    let count = c.div_ceil-count.ensures in
    rw c.in-InitOffset.is (found_as (NoneAt c.offset.result 4 c.div_ceil-count.result c.args.place) (¬ HasItem items.InitOffset c.args.place s) _ (λ index. Unit {0}) c.item_at-in-InitOffset.result
    (λ none (offsets, (k, less, at, any)). none k (omega (arith, less, count, size)) (omega (arith, at, start))) (λ index is. tt) c.item_at-in-InitOffset.ensures)
