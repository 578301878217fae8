use Rattle.std.proofs.Common.{◌∙◌, refl, arith}
use Rattle.macho_symbols.proofs.SectionNumbers.{noted_none, noted_more, full_noted, all_noted}
use Rattle.macho_symbols.proofs.sections.MappedSections.of.Goals as goal

pub loop-section-init : goal.loop-section-init
loop-section-init c = (tt, tt, noted_none _ _ refl refl)

pub returns-then-number-eq-SECTION_NUMBERS : goal.returns-then-number-eq-SECTION_NUMBERS
returns-then-number-eq-SECTION_NUMBERS c =
    let are = c.into_iter-section-iterator.ensures.into_iter_gives ∙ c.sections-section-items.ensures.sections in
    full_noted c.args.image.now _ _ are _ c.loop-section.number c.loop-section.invariant.2 c.if-number-eq-SECTION_NUMBERS.true

pub loop-section-preserved : goal.loop-section-preserved
loop-section-preserved c =
    let few = c.loop-section.invariant.2.few in
    (tt, tt, noted_more _ _ _ c.in-Some.section c.in-Some.ensures.steps _ c.loop-section.number c.loop-section.invariant.2 _ c.is_mapped.ensures (omega (arith, few, c.if-number-eq-SECTION_NUMBERS.false)))

pub returns : goal.returns
returns c =
    let are = c.into_iter-section-iterator.ensures.into_iter_gives ∙ c.sections-section-items.ensures.sections in
    all_noted c.args.image.now _ _ are _ c.loop-section.number c.loop-section.invariant.2 c.in-None.ensures.steps.0
