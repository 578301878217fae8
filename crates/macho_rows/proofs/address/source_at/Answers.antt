use Rattle.std.proofs.Common.{inl, subst}
use Rattle.macho_fields.specs.Bytes.{bytes_of}
use Rattle.macho_rows.specs.Address.{HasSource}
use Rattle.macho_rows.proofs.Supplied.{told}
use Rattle.macho_rows.proofs.address.source_at.Goals as goal

pub returns-in-Some-clause-source : goal.returns-in-Some-clause-source
returns-in-Some-clause-source c =
    inl (c.in-Some.ensures.0, subst (λ image. HasSource image c.args.held.now.place c.args.address c.source_in.result) c.in-Some.ensures.1 c.source_in.ensures)

pub returns-in-Some-clause-sound : goal.returns-in-Some-clause-sound
returns-in-Some-clause-sound c = λ unbroken.
    told (bytes_of c.args.held.now.bytes) c.args.held.now.place c.args.address c.source_in.result unbroken
    (subst (λ image. HasSource image c.args.held.now.place c.args.address c.source_in.result) c.in-Some.ensures.1 c.source_in.ensures)

pub returns-in-None-clause-sound : goal.returns-in-None-clause-sound
returns-in-None-clause-sound c = λ unbroken. let (r, place, most, broken) = c.in-None.ensures in absurd (unbroken r place broken)
