use Rattle.std.proofs.Common.{Some, slice_get, refl, sym, ap, ◌∙◌, subst}
use Rattle.std.specs.Option.{IsSome, option_map}
use Rattle.std.proofs.lemmas.Option.{slice_get-get_or}
use Rattle.macho_image.specs.Segment.{SegmentView, segment_at}
use Rattle.macho_rules.specs.Mapped.{mapped_segments}
use Rattle.macho_rules.proofs.Mapped.{mapped_nth}
use Rattle.macho_rules.proofs.OneCommand.{first_at}
use Rattle.macho_rules.proofs.segments.mapped_place.Goals as goal

pub unwrap-requires : goal.unwrap-requires
unwrap-requires c =
    let image = c.args.image.now in
    let found = mapped_nth image c.mapped_segments.result c.mapped_segments.ensures.segments c.nth.result _ c.args.index c.nth.ensures.ran in
    subst IsSome (sym (found ∙ ap (option_map (segment_at image)) (slice_get-get_or (mapped_segments image) c.args.index 0 c.requires))) refl

pub returns : goal.returns
returns c =
    let image = c.args.image.now in
    let found = mapped_nth image c.mapped_segments.result c.mapped_segments.ensures.segments c.nth.result _ c.args.index c.nth.ensures.ran in
    let (p, at, is) = first_at (segment_at image) (slice_get (mapped_segments image) c.args.index) c.unwrap.result (sym c.unwrap.ensures ∙ found) in
    ap Some (c.place.ensures ∙ ap (λ (s : SegmentView). s.place) is) ∙ sym at
