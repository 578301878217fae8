use Rattle.std.proofs.Common.{◌≡◌, ◌++◌, List}
use Rattle.macho_image.specs.Segment.{SectionView}
use Rattle.macho_rules.specs.Survey.{AreFirstSections, EndBy}
use Rattle.macho_rules.proofs.survey.SectionBreaks.note_all.Given as goal

-- these sections of the segment were noted
abbrev pub invariant-loop-section : goal.invariant-loop-section
invariant-loop-section l =
    (seen : List SectionView) × (l.initial.section-iterator ≡ seen ++ l.section-iterator)
    × ((passed : List SectionView) → EndBy (λ s. s.place) passed l.segment.place → AreFirstSections passed l.fn.self → AreFirstSections (passed ++ seen) l.self)
