use Rattle.std.proofs.Common.{◌-◌, ◌≤◌, ◌∙◌, arith, refl}
use Rattle.std.proofs.lemmas.Grind.{common_steps}
use Rattle.macho_text.proofs.Digits.{all_digits, first_set, two_before, two_set}
use Rattle.macho_text.proofs.number.put_digits.Goals as goal

pub loop-start-init : goal.loop-start-init
loop-start-init g c = record { all_places = refl; in_array = omega arith; left = all_digits _ _ _ c.requires.count }

pub loop-start-preserved : goal.loop-start-preserved
loop-start-preserved g c =
    let two : 2 ≤ c.loop-start.start = omega arith in
    let next = two_before (c.loop-start.start - 2) c.loop-start.start g.row.BASE c.loop-start.rest _ (omega arith) (omega arith) in
    record {
      all_places = grind (arith, common_steps);
      in_array = grind (arith, common_steps);
      left = rw (two_set _ _ _ _ two c.loop-start.invariant.in_array, c.digit_pair.ensures) (c.loop-start.invariant.left ∙ next);
    }

pub returns-then-start-eq1 : goal.returns-then-start-eq1
returns-then-start-eq1 g c =
    rw c.digit.ensures (first_set c.loop-start.start g.row.BASE c.loop-start.rest _ _ c.if-start-eq1.true (omega arith) c.loop-start.invariant.left)
