use Rattle.std.proofs.Common.{ℕ}
use Rattle.macho_fields.specs.Bytes.{bytes_of}
use Rattle.macho_readers.specs.Entry.{HasByteOf, SaysData}
use Rattle.macho_readers.proofs.Optional.{some_has, none_has}
use Rattle.macho_readers.proofs.entry.has_data_at.Goals as goal

pub returns-in-Some : goal.returns-in-Some
returns-in-Some c =
    let segment = c.args.segment.now in
    some_has (λ (place : ℕ). HasByteOf segment.image c.args.address place segment.place) (SaysData (bytes_of c.args.entries)) c.file_place.result c.file_place.ensures c.in-Some.place c.in-Some.is c.says_data.result c.says_data.ensures

pub returns-in-None : goal.returns-in-None
returns-in-None c =
    let segment = c.args.segment.now in
    none_has (λ (place : ℕ). HasByteOf segment.image c.args.address place segment.place) (SaysData (bytes_of c.args.entries)) c.file_place.result c.file_place.ensures c.in-None.is
