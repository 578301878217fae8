use Rattle.std.proofs.Common.{◌≡◌, ◌++◌, List, map}
use Rattle.macho_image.specs.Segment.{SectionView}
use Rattle.macho_readers.specs.Names.{names_of}
use Rattle.macho_readers.proofs.NamedSections.{named}
use Rattle.macho_readers.proofs.sections.section_names.Given as goal

-- the names of the sections that were passed are listed
abbrev pub invariant-loop-section : goal.invariant-loop-section
invariant-loop-section l =
    (seen : List SectionView) × (l.initial.section-iterator ≡ seen ++ l.section-iterator)
    × (map names_of l.names.items ≡ map (λ (s : SectionView). named s.image (s.segment, s.place)) seen)
