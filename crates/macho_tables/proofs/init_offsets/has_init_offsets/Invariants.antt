use Rattle.std.proofs.Common.{None}
use Rattle.macho_tables.specs.InitOffsets.{HasOffsets}
use Rattle.macho_tables.proofs.SectionWalks.{AreSearched}
use Rattle.macho_tables.proofs.init_offsets.has_init_offsets.Given as goal

-- no section that was passed has such offsets
abbrev pub invariant-loop-section : goal.invariant-loop-section
invariant-loop-section l =
    (goal.iterator-loop-section).can_next l.section-iterator × (goal.iterator-loop-section).is_finite l.section-iterator
    × AreSearched (λ image segment section place. HasOffsets image segment section) l.initial.section-iterator l.section-iterator None
