use Rattle.std.proofs.Common.{refl}
use Rattle.macho_c.specs.Names.{arch_names}
use Rattle.macho_c.proofs.AgreeNames.{agree}
use Rattle.macho_c.proofs.names.arch_name.Goals as goal

pub returns-in-Some : goal.returns-in-Some
returns-in-Some c = agree _ arch_names c.in-Some.ensures refl

pub returns-in-None : goal.returns-in-None
returns-in-None c = agree _ arch_names c.in-None.ensures refl
