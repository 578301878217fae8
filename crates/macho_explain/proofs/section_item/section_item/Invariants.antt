use Rattle.std.proofs.Common.{Any}
use Rattle.macho_explain.specs.SectionItems.{HasItem}
use Rattle.macho_explain.proofs.section_item.section_item.Given as goal

-- if one of the sections has the item, one of those that are left has it
abbrev pub invariant-loop-section : goal.invariant-loop-section
invariant-loop-section l =
    (goal.iterator-loop-section).can_next l.section-iterator × (goal.iterator-loop-section).is_finite l.section-iterator
    × (Any (HasItem l.sought l.sliced.place) l.initial.section-iterator → Any (HasItem l.sought l.sliced.place) l.section-iterator)
