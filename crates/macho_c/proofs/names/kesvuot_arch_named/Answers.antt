use Rattle.std.proofs.Common.{sym}
use Rattle.macho_c.proofs.ArchNames.{arch_known, arch_unknown}
use Rattle.macho_c.proofs.names.kesvuot_arch_named.Goals as goal

pub returns-in-Some : goal.returns-in-Some
returns-in-Some c = arch_known c.args.name.now c.in-Some.arch (sym c.in-Some.ensures)

pub returns-in-None : goal.returns-in-None
returns-in-None c = arch_unknown c.args.name.now (sym c.in-None.ensures)
