use Rattle.std.proofs.Common.{ap, ◌∙◌, map}
use Rattle.macho_image.specs.Segment.{SegmentView}
use Rattle.macho_rules.proofs.Mapped.{at_places}
use Rattle.macho_strict.specs.Rules.{all_segments}
use Rattle.macho_strict.specs.Sharing.{file_part}
use Rattle.macho_strict.proofs.overlap.FileParts.of.Goals as goal

pub returns : goal.returns
returns c =
    ap (map (λ (s : SegmentView). file_part s.image s.place)) c.segments.ensures.segments ∙ at_places file_part c.args.image.now (all_segments c.args.image.now)
