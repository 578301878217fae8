use Rattle.std.proofs.Common.{subst}
use Rattle.macho_image.specs.Opened.{IsOpened}
use Rattle.macho_image.proofs.image.Image.bytes.Goals as goal

pub returns-clause-opened : goal.returns-clause-opened
returns-clause-opened c = subst IsOpened c.self.view_is c.self.invariant.opened

pub returns-clause-bytes : goal.returns-clause-bytes
returns-clause-bytes c = c.self.view_is
