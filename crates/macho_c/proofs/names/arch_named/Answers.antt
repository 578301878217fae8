use Rattle.std.proofs.Common.{refl}
use Rattle.macho_c.specs.Names.{arch_names}
use Rattle.macho_c.proofs.AgreeNames.{agree_named}
use Rattle.macho_c.proofs.names.arch_named.Goals as goal

pub returns-in-Some : goal.returns-in-Some
returns-in-Some c = agree_named _ arch_names c.in-Some.ensures refl

pub returns-in-None : goal.returns-in-None
returns-in-None c = agree_named _ arch_names c.in-None.ensures refl
