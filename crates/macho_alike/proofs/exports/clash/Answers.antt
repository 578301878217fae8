use Rattle.std.proofs.Common.{◌↔◌, Bool, IsTrue, sym, subst}
use Rattle.macho_alike.specs.Exports.{Clash}
use Rattle.macho_alike.proofs.Labels.{clash_longer}
use Rattle.macho_alike.proofs.exports.clash.Goals as goal

pub returns-then-one-other : goal.returns-then-one-other
returns-then-one-other c =
    subst (λ (b : Bool). IsTrue b ↔ Clash c.args.one.now c.args.other.now) (sym c.starts_with.ensures.value) (clash_longer c.args.one.now c.args.other.now c.if-one-other.true)
