use Rattle.std.proofs.Common.{◌*◌, ◌^◌, ◌<◌, arith, subst}
use Rattle.std.proofs.Math.Nat.{mul-le-mul_left}
use Rattle.macho_fields.specs.LoadCommands.{width_size}
use Rattle.macho_fields.specs.declared.load_command.Width.{Width}
use Rattle.macho_tables.proofs.homes.items_of.Goals as goal

pub overflow_mul-len : goal.overflow_mul-len
overflow_mul-len c =
    let narrow = subst (λ (width : Width). c.item_count-count.result < 2 ^ (8 * width_size width)) c.requires.width c.item_count-count.ensures.near in
    let most = mul-le-mul_left c.item_count-count.result c.requires.item in omega (arith, narrow, most)
