use Rattle.macho_tables.specs.InitOffsets.{HasOffsets, BadOffset}
use Rattle.macho_tables.specs.RunBytes.{AreRunBytes}
use Rattle.macho_tables.proofs.SectionWalks.{AreSearched}
use Rattle.macho_tables.proofs.init_offsets.least_bad.Given as goal

-- the least place belongs to a section that was passed
abbrev pub invariant-loop-section : goal.invariant-loop-section
invariant-loop-section l =
    (goal.iterator-loop-section).can_next l.section-iterator × (goal.iterator-loop-section).is_finite l.section-iterator
    × AreRunBytes l.image l.runs
    × AreSearched (λ image segment section place. HasOffsets image segment section × BadOffset image section place) l.initial.section-iterator l.section-iterator l.least
