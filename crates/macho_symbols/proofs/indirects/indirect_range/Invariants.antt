use Rattle.macho_symbols.proofs.IndirectWalks.{AreLeft}
use Rattle.macho_symbols.proofs.indirects.indirect_range.Given as goal

-- each section that is bad is left
abbrev pub invariant-loop-section : goal.invariant-loop-section
invariant-loop-section l =
    (goal.iterator-loop-section).can_next l.section-iterator × (goal.iterator-loop-section).is_finite l.section-iterator
    × AreLeft l.initial.section-iterator l.section-iterator
