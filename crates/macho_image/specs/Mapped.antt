-- The mapped segments of an image.
use Rattle.std.specs.Prelude.{ℕ, nat_lt, List, filter}
use Rattle.macho_fields.specs.Segment.{all_segments, vmsize}
use Rattle.macho_image.specs.Segment.{SegmentView}

-- the segments of an image that have addresses
abbrev pub mapped_segments : List ℕ → List ℕ
mapped_segments image =
    filter (λ segment. nat_lt 0 (vmsize image segment)) (all_segments image)

-- those that have addresses among the segments that remain
abbrev pub mapped_among : List SegmentView → List SegmentView
mapped_among segments = filter (λ s. nat_lt 0 (vmsize s.image s.place)) segments
