use Rattle.std.proofs.Common.{sym, inl, inr}
use Rattle.macho_opcodes.specs.declared.streams.Stream.TheVariants as streams
use Rattle.macho_alike.specs.Imports.{IsOpcodeLookUp}
use Rattle.macho_alike.proofs.BindLists.{if_ok, on_err, on_any_err}
use Rattle.macho_alike.proofs.LookUps.{no_opcodes, LooksUpIn, opcodes_whole}
use Rattle.macho_alike.proofs.NotedLookUps.{noted_none, noted_then}
use Rattle.macho_alike.proofs.imports.note_opcodes.Goals as goal

pub returns-in_default-clause-noted : goal.returns-in_default-clause-noted
returns-in_default-clause-noted g c = noted_none g.N.Notes.are_of (IsOpcodeLookUp c.args.image.now) c.args.notes.now (no_opcodes c.args.image.now c.requires (sym c.in_default.ensures))

pub returns-in_err-note_stream-clause-memory : goal.returns-in_err-note_stream-clause-memory
returns-in_err-note_stream-clause-memory g c =
    let (name, from, is) = c.in_err-note_stream.ensures.memory in
    on_any_err _ c.from_residual.result (name, from, inl ((opcodes_whole c.args.image.now c.requires c.in-Some.command (sym c.in-Some.ensures) name from).1 (inl is)))

pub returns-clause-noted : goal.returns-clause-noted
returns-clause-noted g c =
    let image = c.args.image.now in
    let command = c.in-Some.command in
    let info = sym c.in-Some.ensures in
    if_ok _ _ c.note_stream-2.result
    (noted_then g.N.Notes.are_of (LooksUpIn image c.requires command info streams.Bind) (LooksUpIn image c.requires command info streams.LazyBind) (IsOpcodeLookUp image) c.args.notes.now
    c.note_stream.new.notes c.note_stream-2.new.notes (opcodes_whole image c.requires command info) c.in_ok-note_stream.ensures.noted)
    c.note_stream-2.ensures.noted

pub returns-clause-memory : goal.returns-clause-memory
returns-clause-memory g c =
    on_err _ _ c.note_stream-2.result
    (λ (name, from, is). (name, from, inl ((opcodes_whole c.args.image.now c.requires c.in-Some.command (sym c.in-Some.ensures) name from).1 (inr is)))) c.note_stream-2.ensures.memory
