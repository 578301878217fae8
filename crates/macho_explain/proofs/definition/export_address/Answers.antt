use Rattle.std.proofs.Common.{◌≡◌, ◌∙◌, ◌<◌, ◌≤◌, List, ℕ, ap, inl, inr, length, subst, sym}
use Rattle.std.proofs.lemmas.Bool.{cases_lt, false≢true}
use Rattle.macho_exports.specs.ExportTrie.{find_export}
use Rattle.macho_fields.specs.Bytes.{bytes_of}
use Rattle.macho_fields.specs.Field.{part}
use Rattle.macho_spans.specs.Span.{end_of}
use Rattle.macho_explain.specs.Alike.{address_by}
use Rattle.macho_explain.proofs.ExportedNames.{address_found, no_export, no_table, table_outside}
use Rattle.macho_explain.proofs.definition.export_address.Goals as goal

pub export_table-requires : goal.export_table-requires
export_table-requires c = c.bytes-bytes.ensures.opened

pub returns-in_err-table : goal.returns-in_err-table
returns-in_err-table c = c.from_residual.ensures ∙ no_table c.args.image.now c.args.name.now (sym c.export_table.ensures.table ∙ c.in_err-table.was)

pub returns-in_err-trie : goal.returns-in_err-trie
returns-in_err-trie c =
    let image = c.args.image.now in
    let table = c.in_ok-table.table in
    let past : length image < end_of table = elim (cases_lt (length image) (end_of table)) [
      | inl past ↦ past
      | inr fits ↦ absurd (false≢true (c.in_err-trie.ensures.inside.1 (subst (λ (b : List ℕ). end_of table ≤ length b) (sym c.bytes-bytes.ensures.bytes) fits)))
    ] in
    c.from_residual-in_err-trie.ensures ∙ table_outside image c.args.name.now table (sym c.export_table.ensures.table ∙ c.in_ok-table.was) past

pub returns-in_err-export : goal.returns-in_err-export
returns-in_err-export c =
    let image = c.args.image.now in
    let table = c.in_ok-table.table in
    let name = c.args.name.now in
    let inside = subst (λ (b : List ℕ). end_of table ≤ length b) c.bytes-bytes.ensures.bytes (c.in_ok-trie.ensures.inside.0 cc) in
    let trie : bytes_of c.new.result ≡ part table.start table.len image = c.new.ensures ∙ (c.in_ok-trie.ensures.bytes ∙ ap (part table.start table.len) c.bytes-bytes.ensures.bytes) in
    c.from_residual-in_err-export.ensures ∙ no_export image name table (sym c.export_table.ensures.table ∙ c.in_ok-table.was) inside
    (ap (λ (b : List ℕ). find_export b name) (sym trie) ∙ (sym c.find_export.ensures ∙ c.in_err-export.was))

pub returns : goal.returns
returns c =
    let image = c.args.image.now in
    let table = c.in_ok-table.table in
    let name = c.args.name.now in
    let inside = subst (λ (b : List ℕ). end_of table ≤ length b) c.bytes-bytes.ensures.bytes (c.in_ok-trie.ensures.inside.0 cc) in
    let trie : bytes_of c.new.result ≡ part table.start table.len image = c.new.ensures ∙ (c.in_ok-trie.ensures.bytes ∙ ap (part table.start table.len) c.bytes-bytes.ensures.bytes) in
    let found = address_found image name table (sym c.export_table.ensures.table ∙ c.in_ok-table.was) inside c.in_ok-export.export
    (ap (λ (b : List ℕ). find_export b name) (sym trie) ∙ (sym c.find_export.ensures ∙ c.in_ok-export.was)) in
    c.address_of.ensures ∙ (ap (λ base. address_by base c.in_ok-export.export.target) c.base.ensures ∙ found)
