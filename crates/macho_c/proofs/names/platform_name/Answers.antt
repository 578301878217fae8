use Rattle.std.proofs.Common.{refl, ap, ◌∙◌}
use Rattle.macho_c.specs.Names.{name_in, platform_names}
use Rattle.macho_c.proofs.AgreeNames.{agree}
use Rattle.macho_c.proofs.names.platform_name.Goals as goal

pub returns-in-Some : goal.returns-in-Some
returns-in-Some c = agree _ platform_names c.in-Some.ensures refl ∙ ap (name_in platform_names) c.from.ensures

pub returns-in-None : goal.returns-in-None
returns-in-None c = agree _ platform_names c.in-None.ensures refl ∙ ap (name_in platform_names) c.from.ensures
