use Rattle.std.proofs.Common.{◌≡◌, ◌++◌, ◌-◌, ◌^◌, min, List}
use Rattle.std.specs.Prelude.{sum_by}
use Rattle.macho_fields.specs.Segment.{nsects}
use Rattle.macho_image.specs.Segment.{SegmentView, sections_among}
use Rattle.macho_rules.specs.Survey.{AreFirstSegments, AreFirstSections, AreMapped}
use Rattle.macho_rules.proofs.survey.SegmentSurvey.of.Given as goal

-- these segments were noted, and their sections
abbrev pub invariant-loop-segment : goal.invariant-loop-segment
invariant-loop-segment l =
    (seen : List SegmentView) × (l.initial.segment-iterator ≡ seen ++ l.segment-iterator)
    × AreFirstSegments seen l.segments × AreFirstSections (sections_among seen) l.sections × AreMapped seen l.mapped
    × (l.section_count ≡ min (sum_by (λ s. nsects s.image s.place) seen) (2 ^ 64 - 1))
