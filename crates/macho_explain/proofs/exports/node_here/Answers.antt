use Rattle.std.proofs.Common.{◌≤◌, length, arith}
use Rattle.macho_exports.specs.Exports.{export_table}
use Rattle.macho_fields.specs.Bytes.{bytes_of}
use Rattle.macho_explain.proofs.Wholes.{lacks, none_inside, none_named, not_before, whole_read}
use Rattle.macho_explain.proofs.exports.node_here.Goals as goal

pub returns-in_err-trie_table : goal.returns-in_err-trie_table
returns-in_err-trie_table c =
    let image = bytes_of c.args.sliced.now.held.bytes in
    rw c.from_residual.ensures (lacks image (export_table image) _ c.args.sliced.now.place (λ opens. none_named image (export_table image) (c.in_err-trie_table.ensures opens)))

pub returns-in_err-table : goal.returns-in_err-table
returns-in_err-table c =
    let image = bytes_of c.args.sliced.now.held.bytes in
    rw c.from_residual-in_err-table.ensures (lacks image (export_table image) _ c.args.sliced.now.place
    (λ opens. none_inside image (export_table image) c.in_ok-trie_table.field-0.span c.in_ok-trie_table.ensures c.in_err-table.ensures))

pub returns-in_err-offset : goal.returns-in_err-offset
returns-in_err-offset c =
    let image = bytes_of c.args.sliced.now.held.bytes in
    let found = c.in_ok-table.field-0 in
    let whole = whole_read image (export_table image) c.in_ok-trie_table.field-0 found.table (bytes_of found.bytes) c.in_ok-trie_table.ensures c.in_ok-table.ensures in
    rw c.from_residual-in_err-offset.ensures (λ s. not_before image (export_table image) found.table.span (bytes_of found.bytes) whole (λ start trie offset. offset ≤ length trie) c.args.sliced.now.place
    (let past = c.in_err-offset.ensures in omega (arith, past)) s.1)
