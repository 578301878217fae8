use Rattle.std.proofs.Common.{◌∙◌}
use Rattle.macho_fields.specs.Bytes.{bytes_of}
use Rattle.macho_explain.proofs.ShownExports.{no_head, no_edges, whole_node}
use Rattle.macho_explain.proofs.exports.node_at.Goals as goal

pub returns-in_err-node-clause-node : goal.returns-in_err-node-clause-node
returns-in_err-node-clause-node c = c.from_residual.ensures ∙ no_head (bytes_of c.args.trie) c.args.offset c.in_err-node.ensures.head

pub returns-in_err-end-clause-node : goal.returns-in_err-end-clause-node
returns-in_err-end-clause-node c =
    let trie = bytes_of c.args.trie in
    c.from_residual-in_err-end.ensures ∙ no_edges trie c.args.offset c.in_ok-node.node c.in_ok-node.ensures.head _ c.in_err-end.ensures.first

pub returns-clause-node : goal.returns-clause-node
returns-clause-node c =
    let trie = bytes_of c.args.trie in
    whole_node trie c.args.offset c.in_ok-node.node c.in_ok-node.ensures.head _ _ c.in_ok-end.end c.in_ok-end.ensures.first
