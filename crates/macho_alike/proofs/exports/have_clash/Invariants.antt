use Rattle.std.proofs.Common.{take}
use Rattle.macho_alike.specs.Exports.{HasClash}
use Rattle.macho_alike.specs.Labels.{texts}
use Rattle.macho_alike.proofs.exports.have_clash.Given as goal

-- none of the labels before it is empty, and no two of them clash
abbrev pub invariant-loop-count : goal.invariant-loop-count
invariant-loop-count l = ¬ HasClash (texts (take l.count l.labels))
