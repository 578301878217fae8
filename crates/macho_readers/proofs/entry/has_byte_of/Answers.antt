use Rattle.std.proofs.Common.{ℕ, rules, tests}
use Rattle.std.specs.Prelude.{⊤}
use Rattle.macho_readers.specs.Entry.{HasByteOf}
use Rattle.macho_readers.proofs.Optional.{some_is, none_is}
use Rattle.macho_readers.proofs.entry.has_byte_of.Goals as goal

pub returns-in-Some : goal.returns-in-Some
returns-in-Some c =
    let segment = c.args.segment.now in
    some_is (λ (place : ℕ). HasByteOf segment.image c.args.address place segment.place) (λ _. ⊤) c.file_place.result c.file_place.ensures c.in-Some.found c.in-Some.is c.args.place _ (search (rules, tests))

pub returns-in-None : goal.returns-in-None
returns-in-None c =
    let segment = c.args.segment.now in
    none_is (λ (place : ℕ). HasByteOf segment.image c.args.address place segment.place) (λ _. ⊤) c.file_place.result c.file_place.ensures c.in-None.is c.args.place
