use Rattle.std.proofs.Common.{◌∙◌, ◌≤◌, ◌<◌, sym, subst, arith, Some}
use Rattle.std.proofs.lemmas.Bool.{false≢true}
use Rattle.macho_fields.specs.FirstPlace.{IsLeastPlace}
use Rattle.macho_readers.specs.Order.{ShiftsFixupsAt}
use Rattle.macho_readers.proofs.Shifted.{counted_none, first_run, found, with_sections, without_sections, number_fits, ended}
use Rattle.macho_readers.proofs.order.first_shifted.Goals as goal

pub loop-segment-init : goal.loop-segment-init
loop-segment-init c =
    counted_none c.args.image.now _ _ (c.into_iter-segment-iterator.ensures.into_iter_gives ∙ c.segments-segment-items.ensures.segments)
    (first_run c.args.image.now c.has_page_zero.result _ c.has_page_zero.ensures c.from-run.ensures)

pub returns-then-is_shifted : goal.returns-then-is_shifted
returns-then-is_shifted c =
    subst (λ p. IsLeastPlace (ShiftsFixupsAt c.args.image.now) (Some p)) (sym c.place.ensures)
    (found c.args.image.now c.segments-segment-items.ensures.opened c.loop-segment.invariant c.in-Some.segment _ c.in-Some.ensures.steps (c.is_shifted.ensures.0 c.if-is_shifted.true))

pub overflow_add-number : goal.overflow_add-number
overflow_add-number c = let fits = number_fits c.args.image.now c.segments-segment-items.ensures.opened c.loop-segment.invariant c.segments-segment-items.ensures.fits in omega (arith, fits)

pub overflow_add-run : goal.overflow_add-run
overflow_add-run c = let fits = number_fits c.args.image.now c.segments-segment-items.ensures.opened c.loop-segment.invariant c.segments-segment-items.ensures.fits in omega (arith, fits)

pub loop-segment-preserved-then-nsects-gt0 : goal.loop-segment-preserved-then-nsects-gt0
loop-segment-preserved-then-nsects-gt0 c =
    with_sections c.args.image.now c.segments-segment-items.ensures.opened c.loop-segment.invariant c.in-Some.segment _ c.in-Some.ensures.steps
    (λ shifted. false≢true (sym c.if-is_shifted.false ∙ c.is_shifted.ensures.1 shifted)) (subst (λ n. 0 < n) c.nsects.ensures.number c.if-nsects-gt0.true)

pub loop-segment-preserved : goal.loop-segment-preserved
loop-segment-preserved c =
    without_sections c.args.image.now c.segments-segment-items.ensures.opened c.loop-segment.invariant c.in-Some.segment _ c.in-Some.ensures.steps
    (λ shifted. false≢true (sym c.if-is_shifted.false ∙ c.is_shifted.ensures.1 shifted)) (subst (λ n. n ≤ 0) c.nsects.ensures.number c.if-nsects-gt0.false)

pub returns : goal.returns
returns c = ended c.args.image.now c.segments-segment-items.ensures.opened c.loop-segment.invariant c.in-None.ensures.steps.0
