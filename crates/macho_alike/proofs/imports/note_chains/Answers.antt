use Rattle.std.proofs.Common.{inr}
use Rattle.macho_fields.specs.Bytes.{bytes_of}
use Rattle.macho_chains.proofs.ChainTables.{none_read, table_read}
use Rattle.macho_alike.specs.Imports.{TableLooksUp, IsChainLookUp}
use Rattle.macho_alike.proofs.BindLists.{if_ok, on_err}
use Rattle.macho_alike.proofs.ImportLookUps.{untabled, headless, headed}
use Rattle.macho_alike.proofs.NotedLookUps.{noted_none, noted_alike}
use Rattle.macho_alike.proofs.imports.note_chains.Goals as goal

pub returns-in_default-clause-noted : goal.returns-in_default-clause-noted
returns-in_default-clause-noted g c =
    let image = c.args.image.now in
    noted_none g.N.Notes.are_of (IsChainLookUp image) c.args.notes.now (λ name from. untabled image name from (none_read image c.of.result c.of.ensures c.in_default.is))

pub returns-in_default-header-clause-noted : goal.returns-in_default-header-clause-noted
returns-in_default-header-clause-noted g c =
    let image = c.args.image.now in
    let is = table_read image c.of.result c.in-Some.table c.of.ensures c.in-Some.is in
    noted_none g.N.Notes.are_of (IsChainLookUp image) c.args.notes.now (λ name from. headless image name from c.in-Some.table is c.in_default-header.is)

pub returns-then-imports_end_past-clause-noted : goal.returns-then-imports_end_past-clause-noted
returns-then-imports_end_past-clause-noted g c =
    let image = c.args.image.now in
    let is = table_read image c.of.result c.in-Some.table c.of.ensures c.in-Some.is in
    noted_none g.N.Notes.are_of (IsChainLookUp image) c.args.notes.now
    (λ name from looks. ((headed image name from c.in-Some.table is c.in-Some-header.header c.in-Some-header.is).1 looks).0 (c.imports_end_past.ensures.0 c.if-imports_end_past.true))

pub returns-clause-noted : goal.returns-clause-noted
returns-clause-noted g c =
    let image = c.args.image.now in
    let is = table_read image c.of.result c.in-Some.table c.of.ensures c.in-Some.is in
    if_ok _ _ c.note_imports.result
    (noted_alike g.N.Notes.are_of (TableLooksUp (bytes_of c.in-Some.table.bytes) c.in-Some-header.header) (IsChainLookUp image) c.args.notes.now c.note_imports.new.notes
    (λ name from. headed image name from c.in-Some.table is c.in-Some-header.header c.in-Some-header.is)) c.note_imports.ensures.noted

pub returns-clause-memory : goal.returns-clause-memory
returns-clause-memory g c =
    let image = c.args.image.now in
    let is = table_read image c.of.result c.in-Some.table c.of.ensures c.in-Some.is in
    on_err _ _ c.note_imports.result (λ (name, from, looks). (name, from, inr ((headed image name from c.in-Some.table is c.in-Some-header.header c.in-Some-header.is).0 looks)))
    c.note_imports.ensures.memory
