use Rattle.std.proofs.Common.{◌≡◌, ◌++◌, List, map}
use Rattle.macho_image.specs.Segment.{SectionView}
use Rattle.macho_readers.specs.SectionAlone.{mapped_part}
use Rattle.macho_readers.proofs.section_alone.mapped_parts.Given as goal

-- the addresses belong to the sections that were passed
abbrev pub invariant-loop-section : goal.invariant-loop-section
invariant-loop-section l =
    (seen : List SectionView) × (l.initial.section-iterator ≡ seen ++ l.section-iterator)
    × (l.parts.spans ≡ map (λ (s : SectionView). mapped_part s.image (s.segment, s.place)) seen)
