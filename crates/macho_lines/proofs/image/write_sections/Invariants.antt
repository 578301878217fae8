use Rattle.std.proofs.Common.{◌∷◌, ◌++◌, map}
use Rattle.macho_fields.specs.Segment.{sections_in}
use Rattle.macho_text.specs.Stream.{joined}
use Rattle.macho_text.proofs.Writers.{PutsPart}
use Rattle.macho_lines.specs.Line.{section_line}
use Rattle.macho_lines.proofs.image.write_sections.Given as goal

-- the lines of the items that are left are still to be written
abbrev pub invariant-loop-section : goal.invariant-loop-section
invariant-loop-section g l = PutsPart g.W.Output l.initial.writer l.writer (l.initial.line ++ joined (map (section_line l.segment.image) (sections_in l.segment.image l.segment.place)))
    (l.line ∷ map (λ s. section_line s.image s.place) l.section-iterator)
