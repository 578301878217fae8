use Rattle.std.proofs.Common.{◌∙◌}
use Rattle.macho_text.proofs.Loops.{texts_placed}
use Rattle.macho_text.proofs.Holding.{holds_begin_as, holds_item, holds_item_fails, holds_items}
use Rattle.macho_lines.specs.Layout.{segment_text}
use Rattle.macho_lines.proofs.image.write_segments.Goals as goal

pub loop-segment-init : goal.loop-segment-init
loop-segment-init g c = holds_begin_as (texts_placed (λ s. segment_text s.image s.place) _ _ (c.into_iter-segment-iterator.ensures.into_iter_gives ∙ c.segments-segment-items.ensures.segments))

pub loop-segment-preserved : goal.loop-segment-preserved
loop-segment-preserved g c = holds_item (λ s. segment_text s.image s.place) c.in-Some.ensures.steps c.loop-segment.invariant c.in_ok-write_segment_lines.ensures

pub returns-in_err-write_segment_lines : goal.returns-in_err-write_segment_lines
returns-in_err-write_segment_lines g c = holds_item_fails (λ s. segment_text s.image s.place) c.from_residual.ensures.0 c.in-Some.ensures.steps c.loop-segment.invariant c.in_err-write_segment_lines.ensures

pub returns : goal.returns
returns g c = holds_items (λ s. segment_text s.image s.place) c.in-None.ensures.steps.0 c.loop-segment.invariant
