use Rattle.std.proofs.Common.{◌≡◌, ◌∙◌, ◌↔◌, ◌++◌, List, ℕ, false, map, IsTrue, Some, None, sym, ap, subst}
use Rattle.std.specs.Borrow.{Bor}
use Rattle.macho_fields.proofs.Options.{of_some, some_has, of_none}
use Rattle.macho_fields.specs.Bytes.{bytes_of}
use Rattle.macho_exports.specs.ExportTrie.{Node, node_at}
use Rattle.macho_exports.proofs.ExportNodes.{met_headless, met_edgeless, met_node}
use Rattle.macho_alike.specs.Exports.{HasClash, HasClashAt, labels_of, label_of}
use Rattle.macho_alike.specs.Labels.{texts, AreLabels}
use Rattle.macho_alike.proofs.exports.has_clash.Goals as goal

never : (trie : List ℕ) (place : ℕ) → node_at trie place ≡ None → IsTrue false ↔ HasClashAt trie place
never trie place none = (λ wrong. absurd (cc), λ has. absurd (of_none (λ (node : Node). HasClash (labels_of trie node)) (node_at trie place) none has))

pub returns-in_default : goal.returns-in_default
returns-in_default c = never (bytes_of c.args.trie) c.args.place (met_headless (bytes_of c.args.trie) c.args.place (sym c.read.ensures.head ∙ c.in_default.is))

pub returns-then-not-branch : goal.returns-then-not-branch
returns-then-not-branch c =
    let trie = bytes_of c.args.trie in
    let none = subst (AreLabels trie c.in-Some.node c.clear.new.self.items c.read_labels.new.labels.items) c.if-not-branch.true c.in_ok-read_labels.ensures in
    never trie c.args.place (met_edgeless trie c.args.place c.in-Some.node (sym c.read.ensures.head ∙ c.in-Some.is) none)

pub returns : goal.returns
returns c =
    let trie = bytes_of c.args.trie in
    let head = c.in-Some.node in
    let (edges, at, added) = subst (AreLabels trie head c.clear.new.self.items c.read_labels.new.labels.items) c.if-not-branch.false c.in_ok-read_labels.ensures in
    let node : Node = record { terminal = head.terminal; edges = edges.0; end = edges.1 } in
    let is : node_at trie c.args.place ≡ Some node = met_node trie c.args.place head edges.0 edges.1 (sym c.read.ensures.head ∙ c.in-Some.is) at in
    let read : texts c.deref.result.now ≡ labels_of trie node =
    ap texts c.deref.ensures.value ∙ (added ∙ ap (λ (old : List (Bor (List ℕ))). texts old ++ map (label_of trie) edges.0) c.clear.ensures.items) in
    let says = subst (λ (labels : List (List ℕ)). IsTrue c.have_clash.result ↔ HasClash labels) read c.have_clash.ensures in (
      λ so. of_some (λ (n : Node). HasClash (labels_of trie n)) (node_at trie c.args.place) node is (says.0 so),
      λ has. says.1 (some_has (λ (n : Node). HasClash (labels_of trie n)) (node_at trie c.args.place) node is has),
    )
