use Rattle.std.proofs.Common.{◌*◌, ◌≤◌, ap, length, arith}
use Rattle.macho_fields.specs.Image.{commands_of}
use Rattle.macho_fields.specs.Segment.{section_count}
use Rattle.macho_image.proofs.HeldSegments.{counted, counted_more, all_counted, count_fits}
use Rattle.macho_image.proofs.image.Image.section_count.Goals as goal

pub overflow_add-count : goal.overflow_add-count
overflow_add-count c =
    let image = c.args.self.now in
    let all = all_counted image _ c.segments-segment-items.ensures.segments in
    let same = ap counted c.into_iter-segment-iterator.ensures.into_iter_gives in
    let more = counted_more _ _ _ c.in-Some.ensures.steps in
    let fits : 80 * section_count image (commands_of image) ≤ length image = count_fits image c.segments-segment-items.ensures.opened in
    omega (arith, all, same, c.loop-segment.invariant.2, more, c.nsects-count.ensures.number, fits, c.segments-segment-items.ensures.fits)

pub loop-segment-preserved : goal.loop-segment-preserved
loop-segment-preserved c = (tt, tt, omega (arith, c.loop-segment.invariant.2, counted_more _ _ _ c.in-Some.ensures.steps, c.nsects-count.ensures.number))

pub returns : goal.returns
returns c =
    let all = all_counted c.args.self.now _ c.segments-segment-items.ensures.segments in
    let same = ap counted c.into_iter-segment-iterator.ensures.into_iter_gives in
    omega (arith, all, same, ap counted c.in-None.ensures.steps.0, c.loop-segment.invariant.2)
