use Rattle.std.proofs.Common.{◌≡◌, ◌<◌, ℕ, List, rules, tests}
use Rattle.macho_image.specs.Segment.{segment_name}
use Rattle.macho_tables.proofs.Found.{any_segment}
use Rattle.macho_readers.proofs.segments.has_earlier_name.Goals as goal

pub returns : goal.returns
returns c =
    let segment = c.args.segment.now in
    any_segment c.args.image.now c.segments.ensures.segments (λ (image : List ℕ) (earlier : ℕ). (earlier < segment.place) × (segment_name image earlier ≡ segment_name segment.image segment.place)) c.any.result c.any.ensures.ran
    (λ s b q k. search (rules, tests))
