use Rattle.std.proofs.Common.{◌≡◌, ◌+◌, ◌-◌, arith, inr}
use Rattle.macho_text.proofs.Digits.{decimal_count, power_of_ten, powers_of_ten}
use Rattle.macho_text.proofs.number.decimal_length.Goals as goal

pub loop-count-preserved : goal.loop-count-preserved
unfolding powers_of_ten
loop-count-preserved c =
    let same : c.loop-count.count + 1 - 1 ≡ c.loop-count.count = omega arith in
    let power = power_of_ten c.loop-count.count c.loop-count-test.true in record {
      some = omega arith;
      most = omega arith;
      low = inr (rw same (omega (arith, power, c.if-count-number.true)));
    }

pub returns-else-count-number-clause-length : goal.returns-else-count-number-clause-length
unfolding powers_of_ten
returns-else-count-number-clause-length c =
    let power = power_of_ten c.loop-count.count c.loop-count-test.true in
    decimal_count _ _ c.loop-count.invariant.some c.loop-count.invariant.most c.loop-count.invariant.low (omega (arith, power, c.if-count-number.false))

pub returns-after-loop-count-clause-length : goal.returns-after-loop-count-clause-length
returns-after-loop-count-clause-length c =
    let all : c.loop-count.count ≡ 20 = omega arith in
    decimal_count _ _ c.loop-count.invariant.some c.loop-count.invariant.most c.loop-count.invariant.low (rw all (omega arith))
