use Rattle.std.proofs.Common.{◌≤◌, ◌<◌, refl, arith, ltb-true}
use Rattle.macho_fields.proofs.Alignment.{divides_by_rest, great_power}
use Rattle.macho_second.proofs.file.is_aligned.Goals as goal

pub returns-then-align-lt-BITS : goal.returns-then-align-lt-BITS
returns-then-align-lt-BITS c = divides_by_rest c.args.offset c.args.align _ c.if-align-lt-BITS.true refl

pub returns-else-align-lt-BITS : goal.returns-else-align-lt-BITS
returns-else-align-lt-BITS c =
    let great : 64 ≤ c.args.align = omega arith in
    (λ h. let less : c.args.align < 64 = ltb-true c.args.align 64 h in absurd (omega arith), λ m. absurd (great_power c.args.offset c.args.align great c.requires (omega arith) m))
