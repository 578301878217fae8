use Rattle.std.proofs.Common.{◌∙◌, ap}
use Rattle.macho_image.specs.Segment.{SegmentView, segment_name}
use Rattle.macho_image.proofs.segment.Segment.name.Goals as goal

pub returns : goal.returns
returns c = c.short_name.ensures ∙ ap (λ (s : SegmentView). segment_name s.image s.place) c.self.view_is
