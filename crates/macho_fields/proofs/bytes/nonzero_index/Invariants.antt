use Rattle.macho_fields.specs.NonZero.{HasNonZero}
use Rattle.macho_fields.proofs.bytes.nonzero_index.Given as goal

abbrev pub invariant-loop-index : goal.invariant-loop-index
invariant-loop-index l = ¬ HasNonZero l.bytes 0 l.index
