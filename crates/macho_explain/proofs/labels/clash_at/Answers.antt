use Rattle.std.proofs.Common.{◌≡◌, List, ℕ, None, Option, Some, ap, map, sym}
use Rattle.std.specs.Option.{option_map}
use Rattle.macho_fields.proofs.Options.{of_none, of_some, some_has}
use Rattle.macho_fields.specs.Bytes.{bytes_of}
use Rattle.macho_exports.specs.ExportTrie.{edges_at, node_at, Node}
use Rattle.macho_exports.specs.declared.export_trie.ExportEdge.{ExportEdge}
use Rattle.macho_exports.proofs.ExportNodes.{met_edgeless, met_headless, met_node}
use Rattle.macho_alike.specs.Exports.{label_of, labels_of, HasClash, HasClashAt}
use Rattle.macho_explain.specs.Alike.{labels_from, IsClashShown, IsEdgeShown}
use Rattle.macho_explain.proofs.Found.{found_as}
use Rattle.macho_explain.proofs.ShownExports.{mapped_none, mapped_some}
use Rattle.macho_explain.proofs.labels.clash_at.Goals as goal

never : (trie : List ℕ) (offset : ℕ) → node_at trie offset ≡ None → ¬ HasClashAt trie offset
never trie offset none has = of_none (λ (node : Node). HasClash (labels_of trie node)) (node_at trie offset) none has

pub returns-in_err-node : goal.returns-in_err-node
returns-in_err-node c =
    let trie = bytes_of c.args.trie in
    rw c.from_residual.ensures (never trie c.args.offset (met_headless trie c.args.offset (sym c.in_err-node.ensures.head)))

pub returns-in_err-follow : goal.returns-in_err-follow
returns-in_err-follow c =
    let trie = bytes_of c.args.trie in
    let none = mapped_none _ (edges_at c.in_ok-node.node.edge_count trie c.in_ok-node.node.edges) c.in_err-follow.ensures.first in
    rw c.from_residual-in_err-follow.ensures (never trie c.args.offset (met_edgeless trie c.args.offset c.in_ok-node.node (sym c.in_ok-node.ensures.head) none))

pub returns : goal.returns
returns c =
    let trie = bytes_of c.args.trie in
    let head = c.in_ok-node.node in
    let (edges, are, same) = mapped_some _ (edges_at head.edge_count trie head.edges) _ c.in_ok-follow.ensures.first in
    let node : Node = record { terminal = head.terminal; edges = edges.0; end = edges.1 } in
    let is : node_at trie c.args.offset ≡ Some node = met_node trie c.args.offset head edges.0 edges.1 (sym c.in_ok-node.ensures.head) are in
    let labels : labels_from head.edge_count trie head.edges ≡ Some (labels_of trie node) =
    ap (λ (o : Option (List ExportEdge × ℕ)). option_map (λ (e : List ExportEdge × ℕ). map (label_of trie) e.0) o) are in
    found_as (¬ HasClash (labels_of trie node)) (¬ HasClashAt trie c.args.offset) (λ found. IsClashShown (labels_of trie node) found.0 found.1) (λ found. IsEdgeShown trie c.args.offset found.0 found.1)
    c.clash_of.result
    (λ none has. none (some_has (λ (n : Node). HasClash (labels_of trie n)) (node_at trie c.args.offset) node is has))
    (λ found shown. of_some (λ (n : Node). IsClashShown (labels_of trie n) found.0 found.1) (node_at trie c.args.offset) node is shown)
    (c.clash_of.ensures (labels_of trie node) labels)
