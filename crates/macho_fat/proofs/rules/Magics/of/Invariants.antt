use Rattle.macho_fat.proofs.Magics.{AreMagicsBelow}
use Rattle.macho_fat.proofs.rules.Magics.of.Given as goal

-- what the slices before this one begin with
abbrev pub invariant-loop-k : goal.invariant-loop-k
invariant-loop-k l = AreMagicsBelow l.table l.k l.foreign l.has_image
