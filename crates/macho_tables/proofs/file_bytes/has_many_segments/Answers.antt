use Rattle.std.proofs.Common.{List, refl}
use Rattle.std.proofs.lemmas.Iterator.Consumers.{YieldsList-from_first, nth_from_yields_List}
use Rattle.macho_image.specs.Segment.{SegmentView}
use Rattle.macho_tables.proofs.FileBytes.{many_or_few}
use Rattle.macho_tables.proofs.file_bytes.has_many_segments.Goals as goal

pub returns : goal.returns
returns c =
    let all = c.mapped_segments.result in
    let yields = YieldsList-from_first (λ (s : SegmentView). s) (λ (left : List SegmentView). left) all refl in
    let found = nth_from_yields_List c.nth.result c.nth.new.self 16 c.nth.ensures.ran yields in
    many_or_few c.args.image.now all c.mapped_segments.ensures.segments c.nth.result found c.is_some.result c.is_some.ensures
