use Rattle.std.proofs.Common.{Any, ap, subst, sym}
use Rattle.std.proofs.lemmas.Bool.{false≢true}
use Rattle.std.proofs.lemmas.List.{take_all}
use Rattle.macho_alike.specs.Exports.{Clash}
use Rattle.macho_alike.specs.Labels.{texts}
use Rattle.macho_alike.proofs.exports.clashes_any.Goals as goal

pub returns : goal.returns
returns c = (
  λ no. absurd (false≢true no),
  λ any. absurd (c.loop-other.invariant (subst (Any (λ other. Clash other c.args.label.now)) (sym (ap texts (take_all c.loop-other.other-index c.args.others.now c.loop-other-test.false))) any)),
)
