use Rattle.macho_fields.specs.Bytes.{bytes_of}
use Rattle.macho_readers.specs.Entry.{SaysEntry, IsDataAt}
use Rattle.macho_readers.proofs.Optional.{some_has, none_has}
use Rattle.macho_readers.proofs.entry.begins_at_data.Goals as goal

pub returns-in-Some : goal.returns-in-Some
returns-in-Some c =
    let image = c.args.image.now in
    some_has (SaysEntry image c.args.command.now.place) (IsDataAt image (bytes_of c.args.entries)) c.entry_address.result c.entry_address.ensures c.in-Some.address c.in-Some.is c.is_data_at.result c.is_data_at.ensures

pub returns-in-None : goal.returns-in-None
returns-in-None c =
    let image = c.args.image.now in
    none_has (SaysEntry image c.args.command.now.place) (IsDataAt image (bytes_of c.args.entries)) c.entry_address.result c.entry_address.ensures c.in-None.is
