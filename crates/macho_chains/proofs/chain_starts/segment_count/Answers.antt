use Rattle.std.proofs.Common.{◌∙◌, length, ap, inl, arith}
use Rattle.std.proofs.lemmas.Iterator.Consumers.{count_from_yields_List}
use Rattle.std.proofs.lemmas.List.{length-map}
use Rattle.macho_fields.specs.Segment.{all_segments}
use Rattle.macho_image.specs.Segment.{segment_at}
use Rattle.macho_tables.proofs.Found.{segments_yield}
use Rattle.macho_tables.proofs.Roomy.{segments_few}
use Rattle.macho_chains.proofs.chain_starts.segment_count.Goals as goal

pub count-requires-clause-fits : goal.count-requires-clause-fits
count-requires-clause-fits c =
    let image = c.args.image.now in
    let few = segments_few image c.segments.ensures.opened c.segments.ensures.fits in
    let size = ap length c.segments.ensures.segments ∙ length-map (all_segments image) (segment_at image) in
    inl (omega (arith, few, size))

pub returns : goal.returns
returns c =
    let image = c.args.image.now in
    count_from_yields_List c.segments.result c.count.result c.count.ensures.ran (segments_yield image c.segments.ensures.segments)
    ∙ (ap length c.segments.ensures.segments ∙ length-map (all_segments image) (segment_at image))
