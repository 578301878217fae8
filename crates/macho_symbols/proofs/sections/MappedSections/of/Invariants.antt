use Rattle.macho_symbols.proofs.SectionNumbers.{AreNoted}
use Rattle.macho_symbols.proofs.sections.MappedSections.of.Given as goal

-- the numbers of the sections that were passed are noted
abbrev pub invariant-loop-section : goal.invariant-loop-section
invariant-loop-section l =
    (goal.iterator-loop-section).can_next l.section-iterator × (goal.iterator-loop-section).is_finite l.section-iterator
    × AreNoted l.initial.section-iterator l.section-iterator l.are_mapped l.number
