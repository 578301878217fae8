use Rattle.std.proofs.Common.{◌≡◌, ◌∙◌, ◌↔◌, ◌+◌, ℕ, List, Some, refl, sym, ap, subst, arith}
use Rattle.macho_fields.specs.Bytes.{bytes_of}
use Rattle.macho_fields.specs.Field.{string_from}
use Rattle.macho_chains.specs.ChainImports.{import_of, import_name_start}
use Rattle.macho_chains.specs.declared.chain_imports.Import.{Import}
use Rattle.macho_alike.specs.Imports.{IsFrom, TableLooksUp, library_by}
use Rattle.macho_alike.specs.LookUps.{IsLookedUpIn, IsNear}
use Rattle.macho_alike.specs.declared.binds.Library.{Library}
use Rattle.macho_alike.proofs.BindLists.{on_any_err}
use Rattle.macho_alike.proofs.ImportLookUps.{ImportsBelow, imports_none, imports_more, imports_all, near_import}
use Rattle.macho_alike.proofs.NotedLookUps.{noted_none, noted_alike, noted_then}
use Rattle.macho_alike.proofs.imports.note_imports.Goals as goal

pub loop-index-init : goal.loop-index-init
loop-index-init g c = noted_none g.N.Notes.are_of (ImportsBelow (bytes_of c.args.chains) c.args.header 0) c.args.notes.now (imports_none (bytes_of c.args.chains) c.args.header)

pub library_by-requires : goal.library_by-requires
library_by-requires g c = subst (λ (i : Import). IsNear i.ordinal) (sym c.import-import.ensures) (near_import (bytes_of c.args.chains) c.args.header c.loop-index.index)

-- what the import looks up
says : (chains : List ℕ) (name : List ℕ) (start place : ℕ) (own in_import : Library) → name ≡ string_from start chains → start ≡ place → own ≡ in_import
    → (other : List ℕ) (from : Library) → ((string_from place chains ≡ other) × IsFrom (Some in_import) from) ↔ ((other ≡ name) × IsFrom (Some own) from)
says chains name start place own in_import reads at same other from =
    let text : name ≡ string_from place chains = reads ∙ ap (λ (p : ℕ). string_from p chains) at in (
      λ (is, is_from). (sym is ∙ sym text, subst (λ (l : Library). IsFrom (Some l) from) (sym same) is_from),
      λ (is, is_from). (sym text ∙ sym is, subst (λ (l : Library). IsFrom (Some l) from) same is_from),
    )

pub loop-index-preserved : goal.loop-index-preserved
loop-index-preserved g c =
    let chains = bytes_of c.args.chains in
    let header = c.args.header in
    let index = c.loop-index.index in
    let own : c.library_by.result ≡ library_by (import_of chains header index).ordinal = c.library_by.ensures ∙ ap (λ (i : Import). library_by i.ordinal) c.import-import.ensures in
    let says_it = says chains c.string_at-name.result.now c.name_start.result (import_name_start chains header index) c.library_by.result (library_by (import_of chains header index).ordinal)
    c.string_at-name.ensures c.name_start.ensures own in
    noted_then g.N.Notes.are_of (ImportsBelow chains header index) (IsLookedUpIn c.string_at-name.result.now (Some c.library_by.result)) (ImportsBelow chains header (index + 1)) c.args.notes.now
    c.loop-index.notes c.note_look_up.new.notes (imports_more chains header index c.string_at-name.result.now (Some c.library_by.result) says_it) c.loop-index.invariant c.in_ok-note_look_up.ensures.noted

pub returns-clause-noted : goal.returns-clause-noted
returns-clause-noted g c =
    let chains = bytes_of c.args.chains in
    let header = c.args.header in
    noted_alike g.N.Notes.are_of (ImportsBelow chains header c.loop-index.index) (TableLooksUp chains header) c.args.notes.now c.loop-index.notes
    (imports_all chains header c.loop-index.index (omega (arith, c.loop-index.auto.index-end, c.loop-index-test.false)) c.requires) c.loop-index.invariant

pub returns-in_err-note_look_up-clause-memory : goal.returns-in_err-note_look_up-clause-memory
returns-in_err-note_look_up-clause-memory g c =
    let chains = bytes_of c.args.chains in
    let header = c.args.header in
    let index = c.loop-index.index in
    let own : c.library_by.result ≡ library_by (import_of chains header index).ordinal = c.library_by.ensures ∙ ap (λ (i : Import). library_by i.ordinal) c.import-import.ensures in
    let (from, is_from) = c.in_err-note_look_up.ensures.memory in
    on_any_err _ c.from_residual.result (
      string_from (import_name_start chains header index) chains,
      from,
      (c.requires, (index, c.loop-index-test.true, (refl, subst (λ (l : Library). IsFrom (Some l) from) own is_from))),
    )
