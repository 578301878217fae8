use Rattle.std.proofs.Common.{ℕ}
use Rattle.macho_fields.specs.Bytes.{bytes_of}
use Rattle.macho_explain.specs.Compared.{HasExportTarget, HasOrdinal}
use Rattle.macho_explain.proofs.ShownExports.{at_node, has_place, no_node}
use Rattle.macho_explain.proofs.exports.export_library.Goals as goal

pub returns-in_err-node : goal.returns-in_err-node
returns-in_err-node c = rw c.from_residual.ensures (λ s. c.in_err-node.ensures (has_place (λ image trie terminal. (ordinal : ℕ) × HasExportTarget trie terminal (HasOrdinal ordinal)) (bytes_of c.args.sliced.now.held.bytes) c.args.sliced.now.place s))

pub returns-in_err-ordinal : goal.returns-in_err-ordinal
returns-in_err-ordinal c = rw c.from_residual-in_err-ordinal.ensures (λ s.
    let (value, has) = at_node (λ image trie terminal. (ordinal : ℕ) × HasExportTarget trie terminal (HasOrdinal ordinal)) c.args.sliced.now c.in_ok-node.node c.in_ok-node.ensures c.in_ok-node-2.field-0 c.in_ok-node-2.was s in
    c.in_err-ordinal.ensures value has)

pub returns-in_err-node-2 : goal.returns-in_err-node-2
returns-in_err-node-2 c = rw c.from_residual-in_err-node-2.ensures (no_node (λ image trie terminal. (ordinal : ℕ) × HasExportTarget trie terminal (HasOrdinal ordinal)) c.args.sliced.now c.in_ok-node.node c.in_ok-node.ensures c.in_err-node-2.was)

pub ordinal_in-requires : goal.ordinal_in-requires
ordinal_in-requires c = rw c.in_ok-node-2.was at c.in_ok-node.ensures.inside

pub returns-in_err-open : goal.returns-in_err-open
returns-in_err-open c = rw c.from_residual-in_err-open.ensures (λ s. s.0 c.in_err-open.ensures)
