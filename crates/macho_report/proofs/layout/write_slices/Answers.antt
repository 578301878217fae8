use Rattle.std.proofs.Common.{◌≤◌, refl, length, arith}
use Rattle.macho_fields.specs.Universal.{slices_of}
use Rattle.macho_text.proofs.Loops.{indexed, found, all_passed}
use Rattle.macho_text.proofs.Holding.{held_item_fails, held_items, holds_item, holds_start}
use Rattle.macho_lines.specs.Layout.{slice_text}
use Rattle.macho_report.proofs.layout.write_slices.Goals as goal

pub loop-index-init : goal.loop-index-init
loop-index-init g c = holds_start c.new-line.ensures refl

pub loop-index-preserved : goal.loop-index-preserved
loop-index-preserved g c =
    let (slice, is, put) = found _ _ c.in_ok-write_slice_lines.ensures in
    holds_item (slice_text (g.J.Judge.says c.args.judge.now) c.args.verified.now) (indexed c.loop-index.index (slices_of c.args.verified.now) slice is) c.loop-index.invariant put

pub returns-in_err-write_slice_lines : goal.returns-in_err-write_slice_lines
returns-in_err-write_slice_lines g c =
    let (slice, is, put) = found _ _ c.in_err-write_slice_lines.ensures in
    held_item_fails (slice_text (g.J.Judge.says c.args.judge.now) c.args.verified.now) c.from_residual.ensures.0 (indexed c.loop-index.index (slices_of c.args.verified.now) slice is) c.loop-index.invariant put

pub returns : goal.returns
returns g c =
    let past : length (slices_of c.args.verified.now) ≤ c.loop-index.index = omega (arith, c.slice_count-index-end.ensures) in
    held_items (slice_text (g.J.Judge.says c.args.judge.now) c.args.verified.now) (all_passed 0 c.loop-index.index (slices_of c.args.verified.now) past) c.loop-index.invariant c.hand_on.ensures.text
