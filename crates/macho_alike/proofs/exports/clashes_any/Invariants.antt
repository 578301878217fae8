use Rattle.std.proofs.Common.{Any, take}
use Rattle.macho_alike.specs.Exports.{Clash}
use Rattle.macho_alike.specs.Labels.{texts}
use Rattle.macho_alike.proofs.exports.clashes_any.Given as goal

-- none of the others before it clashes
abbrev pub invariant-loop-other : goal.invariant-loop-other
invariant-loop-other l = ¬ Any (λ other. Clash other l.label) (texts (take l.other-index l.others))
