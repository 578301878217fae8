use Rattle.std.proofs.Common.{◌∙◌, refl, arith}
use Rattle.macho_tables.proofs.Roomy.{rooms_start, rooms_more, rooms_past, budget_fits, rooms_all}
use Rattle.macho_tables.proofs.limits.rooms_of.Goals as goal

pub loop-segment-init : goal.loop-segment-init
loop-segment-init c = (tt, tt, rooms_start _ _ refl refl)

pub overflow_add-budget : goal.overflow_add-budget
overflow_add-budget c =
    let are = c.into_iter-segment-iterator.ensures.into_iter_gives ∙ c.segments-segment-items.ensures.segments in
    let fits = budget_fits c.args.image.now _ _ _ _ _ c.room-room.result c.segments-segment-items.ensures.opened c.segments-segment-items.ensures.fits are c.loop-segment.invariant.2 c.room-room.type_inv in
    omega (arith, fits, c.from-budget.ensures)

pub loop-segment-preserved-then-index-lt-SEGMENTS : goal.loop-segment-preserved-then-index-lt-SEGMENTS
loop-segment-preserved-then-index-lt-SEGMENTS c =
    rw c.from-budget.ensures (tt, tt, rooms_more _ _ _ c.in-Some.segment c.in-Some.ensures.steps _ _ _ c.room-room.result c.room-room.ensures c.room-room.type_inv c.loop-segment.invariant.2 c.if-index-lt-SEGMENTS.true)

pub loop-segment-preserved : goal.loop-segment-preserved
loop-segment-preserved c =
    rw c.from-budget.ensures (tt, tt, rooms_past _ _ _ c.in-Some.segment c.in-Some.ensures.steps _ _ _ c.room-room.result c.room-room.ensures c.room-room.type_inv c.loop-segment.invariant.2 c.if-index-lt-SEGMENTS.false)

pub returns-clause-sizes : goal.returns-clause-sizes
returns-clause-sizes c =
    let are = c.into_iter-segment-iterator.ensures.into_iter_gives ∙ c.segments-segment-items.ensures.segments in
    (rooms_all c.args.image.now _ _ _ _ _ are c.in-None.ensures.steps.0 c.loop-segment.invariant.2).0

pub returns-clause-budget : goal.returns-clause-budget
returns-clause-budget c =
    let are = c.into_iter-segment-iterator.ensures.into_iter_gives ∙ c.segments-segment-items.ensures.segments in
    (rooms_all c.args.image.now _ _ _ _ _ are c.in-None.ensures.steps.0 c.loop-segment.invariant.2).1
