use Rattle.std.proofs.Common.{arith}
use Rattle.macho_unambiguous.proofs.HiddenEntries.{no_hidden_slice}
use Rattle.macho_unambiguous.proofs.law.table_has_one_end.Goals as goal

pub returns : goal.returns
returns c = no_hidden_slice c.args.file.now (λ k. let f = c.type_inv.file k in omega (arith, f.fits)) c.requires.layout c.requires.strict
