use Rattle.macho_fields.specs.Bytes.{bytes_of}
use Rattle.macho_c.proofs.ThreadEntries.{entry_found, none_opened}
use Rattle.macho_c.proofs.thread.entry_of.Goals as goal

pub returns-in-Some : goal.returns-in-Some
returns-in-Some c = entry_found (bytes_of c.args.image.now.bytes) c.in-Some.opened c.thread_entry.result c.in-Some.ensures.0 c.in-Some.ensures.1 c.thread_entry.ensures

pub returns-in-None : goal.returns-in-None
returns-in-None c = none_opened (bytes_of c.args.image.now.bytes) c.in-None.ensures
