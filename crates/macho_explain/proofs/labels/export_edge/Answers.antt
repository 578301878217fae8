use Rattle.std.proofs.Common.{◌≤◌, List, ℕ, length}
use Rattle.macho_fields.specs.Bytes.{bytes_of}
use Rattle.macho_exports.specs.Exports.{export_table}
use Rattle.macho_alike.specs.Exports.{HasClashAt}
use Rattle.macho_explain.specs.Compared.{HasClashNode, HasNodeAt}
use Rattle.macho_explain.proofs.Wholes.{at_offset}
use Rattle.macho_explain.proofs.labels.export_edge.Goals as goal

has_node : (image : List ℕ) (place : ℕ) → HasClashNode image place → HasNodeAt image place
has_node image place (opens, (table, bytes, is, offset, at, (near, has))) = (opens, (table, bytes, is, offset, at, near))

pub returns-in_err-node : goal.returns-in_err-node
returns-in_err-node c = rw c.from_residual.ensures (λ s. c.in_err-node.ensures (has_node (bytes_of c.args.sliced.now.held.bytes) c.args.sliced.now.place s))

pub returns-in_err-edge : goal.returns-in_err-edge
returns-in_err-edge c =
    let image = bytes_of c.args.sliced.now.held.bytes in
    let node = c.in_ok-node.node in
    let is = c.in_ok-node.ensures in
    rw c.from_residual-in_err-edge.ensures (λ s. c.in_err-edge.ensures (at_offset image (export_table image) node.table.span (bytes_of node.trie) is.whole
    (λ start trie offset. (offset ≤ length trie) × HasClashAt trie offset) c.args.sliced.now.place node.offset is.place s.1).1)
