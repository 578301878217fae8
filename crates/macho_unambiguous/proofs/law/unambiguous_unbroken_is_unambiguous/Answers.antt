use Rattle.std.proofs.Common.{arith}
use Rattle.macho_unambiguous.proofs.Unambiguous.{file_unambiguous}
use Rattle.macho_unambiguous.proofs.law.unambiguous_unbroken_is_unambiguous.Goals as goal

pub returns : goal.returns
returns c = file_unambiguous c.args.file.now (λ k. let f = c.type_inv.file k in omega (arith, f.fits)) c.requires.unbroken c.requires.strictly c.requires.linked c.requires.unambiguous
