use Rattle.std.proofs.Common.{◌∙◌, ap, map, sym, subst}
use Rattle.macho_fields.specs.Image.{commands_of}
use Rattle.macho_fields.specs.Segment.{segments_of}
use Rattle.macho_image.specs.Segment.{segment_at, segments_left}
use Rattle.macho_image.specs.Views.{HoldSegments}
use Rattle.macho_image.proofs.HeldSegments.{all_segments_hold}
use Rattle.macho_image.proofs.WithOneCmd.{map-places}
use Rattle.macho_image.proofs.image.Image.segments.Goals as goal

pub invariant_of-result : goal.invariant_of-result
invariant_of-result c =
    subst (λ image. HoldSegments image c.commands_with_segments.result) (sym c.bytes.ensures.bytes)
    (all_segments_hold c.args.self.now c.commands_with_segments.result c.commands_with_segments.ensures.opened c.commands_with_segments.ensures.segments)

pub returns-clause-segments : goal.returns-clause-segments
returns-clause-segments c =
    ap (λ image. segments_left image c.commands_with_segments.result) c.bytes.ensures.bytes
    ∙ (ap (map (λ v. segment_at c.args.self.now v.place)) c.commands_with_segments.ensures.segments
    ∙ map-places (segment_at c.args.self.now) c.args.self.now (segments_of c.args.self.now (commands_of c.args.self.now)))
