use Rattle.macho_symbols.specs.Relocations.{IsBadOf}
use Rattle.macho_symbols.specs.declared.relocations.Owner.TheVariants as owners
use Rattle.macho_symbols.proofs.RelocationWalks.{AtSection}
use Rattle.macho_tables.proofs.SectionWalks.{AreSearched}
use Rattle.macho_symbols.proofs.relocations.of_sections.Given as goal

-- the least place is in the sections that were passed
abbrev pub invariant-loop-section : goal.invariant-loop-section
invariant-loop-section l =
    (goal.iterator-loop-section).can_next l.section-iterator × (goal.iterator-loop-section).is_finite l.section-iterator
    × AreSearched (AtSection l.image (IsBadOf l.image owners.Section)) l.initial.section-iterator l.section-iterator l.least
