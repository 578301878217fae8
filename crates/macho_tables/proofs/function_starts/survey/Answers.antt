use Rattle.std.proofs.Common.{◌≡◌, Some, sym, ap, ◌∙◌, subst, arith}
use Rattle.macho_fields.specs.Bytes.{bytes_of}
use Rattle.macho_fields.specs.FirstPlace.{IsLeastPlace}
use Rattle.macho_tables.specs.Functions.{IsNonZeroFrom}
use Rattle.macho_tables.specs.Numbers.{unsigned_at}
use Rattle.macho_tables.proofs.StartNumbers.{number_within, walk_start, walk_more, survey_missing, survey_last, survey_end}
use Rattle.macho_tables.proofs.function_starts.survey.Goals as goal

pub loop-place-init : goal.loop-place-init
loop-place-init c = record { bytes = c.requires.bytes; walked = rw c.before-functions.ensures (walk_start c.args.image.now (bytes_of c.args.table)) }

pub returns-in_default : goal.returns-in_default
returns-in_default c =
    survey_missing c.args.image.now (bytes_of c.args.table) c.loop-place.place c.loop-place.functions c.loop-place.invariant.walked c.survey.result c.survey.ensures.start c.survey.ensures.number
    (omega (arith, c.len.ensures.count, c.loop-place-test.true)) (sym c.in_default.ensures)

pub loop-place-smaller : goal.loop-place-smaller
loop-place-smaller c =
    let within = number_within (bytes_of c.args.table) c.loop-place.place c.in-Some.distance c.in-Some.next (sym c.in-Some.ensures) in
    omega (arith, within.0, within.1, c.len.ensures.count, c.loop-place-test.true)

pub first_nonzero_from-requires : goal.first_nonzero_from-requires
first_nonzero_from-requires c =
    let within = number_within (bytes_of c.args.table) c.loop-place.place c.in-Some.distance c.in-Some.next (sym c.in-Some.ensures) in
    omega (arith, within.1)

pub returns-then-distance-eq0 : goal.returns-then-distance-eq0
returns-then-distance-eq0 c =
    let table = bytes_of c.args.table in
    let last : unsigned_at table c.loop-place.place ≡ Some (0, c.in-Some.next) = sym c.in-Some.ensures ∙ ap (λ n. Some (n, c.in-Some.next)) c.if-distance-eq0.true in
    let survey = c.survey-then-distance-eq0.result in
    survey_last c.args.image.now table c.loop-place.place c.loop-place.functions c.loop-place.invariant.walked survey c.survey-then-distance-eq0.ensures.start c.in-Some.next last
    (subst (IsLeastPlace (IsNonZeroFrom table c.in-Some.next)) (sym c.survey-then-distance-eq0.ensures.number) c.first_nonzero_from.ensures)

pub loop-place-preserved : goal.loop-place-preserved
loop-place-preserved c = record {
  bytes = c.with-functions.ensures.same;
  walked = walk_more c.args.image.now (bytes_of c.args.table) c.loop-place.place c.loop-place.functions c.loop-place.invariant.walked c.in-Some.distance c.in-Some.next c.with-functions.result
      (sym c.in-Some.ensures) (let some = c.if-distance-eq0.false in omega (arith, some)) c.with-functions.ensures.functions;
}

pub returns : goal.returns
returns c =
    survey_end c.args.image.now (bytes_of c.args.table) c.loop-place.place c.loop-place.functions c.loop-place.invariant.walked c.survey-2.result c.survey-2.ensures.start c.survey-2.ensures.number
    (omega (arith, c.len.ensures.count, c.loop-place-test.false))
