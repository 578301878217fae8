use Rattle.std.proofs.Common.{◌≡◌, ◌∙◌, ◌+◌, ◌++◌, ◌∷◌, [], ℕ, refl, subst, sym, arith}
use Rattle.std.specs.Prelude.{sum}
use Rattle.std.proofs.lemmas.List.Sums.{sum_by_push}
use Rattle.std.proofs.lemmas.Option.{none-some}
use Rattle.macho_fields.specs.Bytes.{bytes_of}
use Rattle.macho_tables.specs.StartNumbers.{AreNumbers}
use Rattle.macho_tables.proofs.StartNumbers.{number_within, numbers_more}
use Rattle.macho_explain.proofs.FunctionNumbers.{numbers_go_on, same_number}
use Rattle.macho_explain.proofs.functions.start_at.Goals as goal

pub loop-place-init : goal.loop-place-init
loop-place-init c = ([], refl, omega (arith, c.ranges.base), λ others are. omega arith)

pub loop-place-smaller : goal.loop-place-smaller
loop-place-smaller c =
    let within = number_within (bytes_of c.args.table) c.loop-place.place c.in_ok-distance.distance c.in_ok-distance.next (sym c.in_ok-distance.ensures) in
    omega (arith, within.0, c.loop-place-test.true)

pub loop-place-preserved : goal.loop-place-preserved
loop-place-preserved c =
    let table = bytes_of c.args.table in
    let (numbers, are, sums, late) = c.loop-place.invariant in
    let distance = c.in_ok-distance.distance in
    let at = sym c.in_ok-distance.ensures in
    let total = sum_by_push (λ n. n) numbers distance in (
      numbers ++ distance ∷ [],
      numbers_more table numbers 0 c.loop-place.place distance c.in_ok-distance.next are at (let some = c.if-distance-eq0.false in omega (arith, some)),
      omega (arith, sums, total, c.saturating_add-address.ensures),
      λ others reach.
          let (first, after, there, some, within) = numbers_go_on table numbers others c.loop-place.place c.args.offset are reach c.loop-place-test.true in
          let same = (same_number _ distance first c.in_ok-distance.next after at there).1 in
          omega (arith, same, within),
    )

-- no number is there, on the way
pub returns-in_err-distance : goal.returns-in_err-distance
returns-in_err-distance c =
    let table = bytes_of c.args.table in
    let (numbers, are, sums, late) = c.loop-place.invariant in
    rw c.from_residual.ensures (λ function (others, number, after, reach, at, more, sums).
    let (first, next, there, some, within) = numbers_go_on table numbers others c.loop-place.place c.args.offset are reach c.loop-place-test.true in
    none-some (first, next) (c.in_err-distance.ensures ∙ there))

pub returns-then-distance-eq0 : goal.returns-then-distance-eq0
returns-then-distance-eq0 c =
    let table = bytes_of c.args.table in
    let (numbers, are, sums, late) = c.loop-place.invariant in
    λ function (others, number, after, reach, at, more, sums).
    let (first, next, there, some, within) = numbers_go_on table numbers others c.loop-place.place c.args.offset are reach c.loop-place-test.true in
    let same = (same_number _ c.in_ok-distance.distance first c.in_ok-distance.next next (sym c.in_ok-distance.ensures) there).0 in
    let zero = c.if-distance-eq0.true in
    omega (arith, same, zero, some)

-- nor at the offset
pub returns-in_err-distance-2 : goal.returns-in_err-distance-2
returns-in_err-distance-2 c =
    rw c.from_residual-in_err-distance-2.ensures (λ function (others, number, after, reach, at, more, sums). none-some (number, after) (c.in_err-distance-2.ensures ∙ at))

pub returns : goal.returns
returns c =
    let table = bytes_of c.args.table in
    let (numbers, are, sums, late) = c.loop-place.invariant in
    let distance = c.in_ok-distance-2.distance in
    let here : c.loop-place.place ≡ c.args.offset = (let at = c.if-place-offset.false in omega (arith, at)) in
    let reach = subst (λ (n : ℕ). AreNumbers table numbers n) here are in (
      c.args.base + sum numbers + distance,
      (numbers, distance, c.in_ok-distance-2.next, reach, sym c.in_ok-distance-2.ensures, (let some = c.if-distance-eq0-2.false in omega (arith, some)), refl),
      omega (arith, sums, c.saturating_add.ensures),
    )

pub overflow_sub-result : goal.overflow_sub-result
overflow_sub-result c =
    let within = number_within (bytes_of c.args.table) c.args.offset c.in_ok-distance-2.distance c.in_ok-distance-2.next (sym c.in_ok-distance-2.ensures) in
    omega (arith, within.0)
