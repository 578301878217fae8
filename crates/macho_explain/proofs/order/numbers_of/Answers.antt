use Rattle.std.proofs.Common.{◌∙◌, ◌≤◌, ◌<◌, arith, subst}
use Rattle.macho_readers.proofs.Shifted.{first_run}
use Rattle.macho_explain.proofs.Numbered.{counted_none, ended, number_fits, past, with_sections, without_sections}
use Rattle.macho_explain.proofs.order.numbers_of.Goals as goal

pub loop-segment-init : goal.loop-segment-init
loop-segment-init c =
    counted_none c.args.image.now c.args.place _ _ (c.into_iter-segment-iterator.ensures.into_iter_gives ∙ c.segments-segment-items.ensures.segments)
    (first_run c.args.image.now c.has_page_zero.result _ c.has_page_zero.ensures c.from-run.ensures)

pub overflow_add-number : goal.overflow_add-number
overflow_add-number c = let fits = number_fits c.loop-segment.invariant c.segments-segment-items.ensures.opened c.segments-segment-items.ensures.fits in omega (arith, fits)

pub overflow_add-run : goal.overflow_add-run
overflow_add-run c = let fits = number_fits c.loop-segment.invariant c.segments-segment-items.ensures.opened c.segments-segment-items.ensures.fits in omega (arith, fits)

pub returns : goal.returns
returns c = let done = ended c.loop-segment.invariant c.in-None.ensures.steps.0 in record { number = done.0; run = done.1 }

pub loop-segment-preserved-then-nsects-gt0 : goal.loop-segment-preserved-then-nsects-gt0
loop-segment-preserved-then-nsects-gt0 c =
    let less : c.in-Some.segment.place < c.args.place = omega (arith, c.place.ensures) in
    with_sections c.loop-segment.invariant c.in-Some.segment _ c.in-Some.ensures.steps less (subst (λ n. 0 < n) c.nsects.ensures.number c.if-nsects-gt0.true)

pub loop-segment-preserved-else-nsects-gt0 : goal.loop-segment-preserved-else-nsects-gt0
loop-segment-preserved-else-nsects-gt0 c =
    let less : c.in-Some.segment.place < c.args.place = omega (arith, c.place.ensures) in
    without_sections c.loop-segment.invariant c.in-Some.segment _ c.in-Some.ensures.steps less (subst (λ n. n ≤ 0) c.nsects.ensures.number c.if-nsects-gt0.false)

pub loop-segment-preserved : goal.loop-segment-preserved
loop-segment-preserved c =
    let late : c.args.place ≤ c.in-Some.segment.place = omega (arith, c.place.ensures) in
    past c.loop-segment.invariant c.in-Some.segment _ c.in-Some.ensures.steps late
