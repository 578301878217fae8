use Rattle.std.proofs.Common.{◌∙◌, List, ℕ, sym, ap}
use Rattle.macho_fields.specs.Bytes.{bytes_of}
use Rattle.macho_exports.specs.ExportTrie.{head_at}
use Rattle.macho_c.specs.ExportNodes.{trie_bytes}
use Rattle.macho_c.specs.declared.export_nodes.KesvuotExportNode.{KesvuotExportNode}
use Rattle.macho_c.proofs.Edges.{node_edges, node_whole, no_whole}
use Rattle.macho_c.proofs.export_nodes.kesvuot_read_export_node.Goals as goal

pub returns-in-Some-clause-edges : goal.returns-in-Some-clause-edges
returns-in-Some-clause-edges c =
    let trie = c.held_at-trie.result in
    node_whole c.args.trie.now.offset (trie_bytes c.args.file.now c.args.trie.now) (bytes_of trie.bytes) c.args.offset c.in-Some.head c.node_of.result.edges
    c.held_at-trie.ensures.bytes c.in-Some.ensures.head
    (ap (λ (node : KesvuotExportNode). node.edges) c.node_of.ensures ∙ node_edges c.args.image.now.base trie.place (bytes_of trie.bytes) c.in-Some.head)

pub returns-in-None-clause-edges : goal.returns-in-None-clause-edges
returns-in-None-clause-edges c =
    no_whole _ (trie_bytes c.args.file.now c.args.trie.now) c.args.offset
    (sym (c.in-None.ensures.head ∙ ap (λ (bytes : List ℕ). head_at bytes c.args.offset) c.held_at-trie.ensures.bytes))
