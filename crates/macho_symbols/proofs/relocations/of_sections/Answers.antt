use Rattle.std.proofs.Common.{◌∙◌, ◌<◌, List, ℕ, length, sym, ap, subst, arith}
use Rattle.macho_fields.specs.Bytes.{bytes_of}
use Rattle.macho_symbols.specs.RelocationTables.{IsNamed}
use Rattle.macho_symbols.specs.Relocations.{IsBadOf}
use Rattle.macho_symbols.specs.declared.relocations.Owner.TheVariants as owners
use Rattle.macho_symbols.proofs.RelocationWalks.{AtSection, section_table_inside, found_as}
use Rattle.macho_tables.proofs.SectionWalks.{AreSearched, searched_none, searched_more, searched_all}
use Rattle.macho_symbols.proofs.relocations.of_sections.Goals as goal

pub loop-section-init : goal.loop-section-init
loop-section-init c = (tt, tt, searched_none (AtSection c.args.image.now (IsBadOf c.args.image.now owners.Section)) _)

pub first_bad-requires-clause-named : goal.first_bad-requires-clause-named
first_bad-requires-clause-named c = subst (λ (bytes : List ℕ). IsNamed bytes c.args.named) (sym c.bytes.ensures.bytes) c.requires.named

pub returns : goal.returns
returns c =
    let are = c.into_iter-section-iterator.ensures.into_iter_gives ∙ c.sections-section-items.ensures.sections in
    searched_all (AtSection c.args.image.now (IsBadOf c.args.image.now owners.Section)) c.args.image.now _ are _ c.in-None.ensures.steps.0 c.loop-section.least c.loop-section.invariant.2

pub first_bad-requires-clause-inside : goal.first_bad-requires-clause-inside
first_bad-requires-clause-inside c some =
    let are = c.into_iter-section-iterator.ensures.into_iter_gives ∙ c.sections-section-items.ensures.sections in
    let searched = c.loop-section.invariant.2 in
    let size = ap length c.bytes.ensures.bytes in
    let fits = section_table_inside c.args.image.now c.requires.unbroken _ are searched.seen _ c.in-Some.section _ searched.reached c.in-Some.ensures.steps (subst (λ n. 0 < n) c.nreloc.ensures.number some) in
    omega (arith, fits, size, c.reloff.ensures.number, c.nreloc.ensures.number)

pub loop-section-preserved : goal.loop-section-preserved
loop-section-preserved c =
    let image = c.args.image.now in
    let bad = AtSection image (IsBadOf image owners.Section) in
    let here = found_as (bytes_of c.bytes.result) image c.bytes.ensures.bytes c.reloff.result _ c.nreloc.result _ c.reloff.ensures.number c.nreloc.ensures.number owners.Section c.first_bad.result c.first_bad.ensures in
    let more = searched_more bad _ _ _ c.in-Some.section c.in-Some.ensures.steps c.loop-section.least c.loop-section.invariant.2 c.first_bad.result here in
    (tt, tt, subst (AreSearched bad c.into_iter-section-iterator.result c.next.new.self) (sym c.lesser-least.ensures) more)
