use Rattle.macho_fields.specs.Bytes.{bytes_of}
use Rattle.macho_seals.proofs.CdhashLists.{counted, none_counted}
use Rattle.macho_seals.proofs.cdhash.entry_count.Goals as goal

pub returns-in-Some : goal.returns-in-Some
returns-in-Some c = counted (bytes_of c.args.signature) c.in-Some.superblob c.in-Some.ensures.0 c.in-Some.ensures.1

pub returns-in-None : goal.returns-in-None
returns-in-None c = none_counted (bytes_of c.args.signature) c.in-None.ensures
