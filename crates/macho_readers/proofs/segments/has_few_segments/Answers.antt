use Rattle.std.proofs.Common.{◌↔◌, ◌≤◌, ℕ, IsTrue, length, ◌∙◌, ap, subst}
use Rattle.std.proofs.lemmas.Iterator.Consumers.{nth_from_yields_List}
use Rattle.std.proofs.lemmas.List.{length-map}
use Rattle.macho_fields.specs.Segment.{all_segments}
use Rattle.macho_image.specs.Segment.{SegmentView, segment_at}
use Rattle.macho_tables.proofs.Found.{segments_yield}
use Rattle.macho_readers.specs.declared.names.TheConstants.{FEW_NAMES}
use Rattle.macho_readers.proofs.SameNames.{few}
use Rattle.macho_readers.proofs.segments.has_few_segments.Goals as goal

pub returns : goal.returns
returns c =
    let image = c.args.image.now in
    let all = c.segments.result in
    subst (λ (n : ℕ). IsTrue c.is_none.result ↔ (n ≤ FEW_NAMES)) (ap length c.segments.ensures.segments ∙ length-map (all_segments image) (segment_at image))
    (few (λ (s : SegmentView). s) c.nth.result all FEW_NAMES c.is_none.result (nth_from_yields_List c.nth.result _ FEW_NAMES c.nth.ensures.ran (segments_yield image c.segments.ensures.segments)) c.is_none.ensures)
