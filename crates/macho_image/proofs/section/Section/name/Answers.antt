use native.Mathlib.Numerals.{unary_clauses}
use Rattle.std.proofs.Common.{◌∙◌, ap}
use Rattle.macho_image.specs.Segment.{SectionView, section_name}
use Rattle.macho_image.proofs.section.Section.name.Goals as goal

pub returns : goal.returns
returns c =
    simp unary_clauses at c.short_name.ensures ∙ ap (λ (s : SectionView). section_name s.image s.place) c.self.view_is
