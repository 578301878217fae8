use Rattle.std.proofs.Common.{arith, subst}
use Rattle.std.proofs.lemmas.Int.{ints}
use Rattle.macho_fixups.specs.ChainedImports.{IsNear}
use Rattle.macho_fixups.proofs.chained_imports.library_of.Goals as goal

pub overflow_cast-result : goal.overflow_cast-result
overflow_cast-result c = let near = subst IsNear c.in-Library.is c.requires in omega (arith, ints, near)

pub overflow_cast-result-in-Special : goal.overflow_cast-result-in-Special
overflow_cast-result-in-Special c = let near = subst IsNear c.in-Special.is c.requires in omega (arith, ints, near)

pub overflow_sub-result : goal.overflow_sub-result
overflow_sub-result c = let near = subst IsNear c.in-Special.is c.requires in omega (arith, ints, near)
