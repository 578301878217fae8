-- What an explanation shows of an export trie.
use Rattle.std.proofs.Common.{◌≡◌, ◌∙◌, ◌≤◌, ℕ, true, List, length, Option, Some, None, refl, sym, ap, subst, arith}
use Rattle.std.specs.Prelude.{IsSomeAnd, MatchOption}
use Rattle.std.specs.Option.{option_map, is_some}
use Rattle.std.proofs.lemmas.Bool.{false≢true}
use Rattle.std.proofs.lemmas.Option.{none-some, same_Some}
use Rattle.macho_spans.specs.declared.span.Span.{Span}
use Rattle.macho_exports.specs.ExportTrie.{Node, edges_at, head_at, node_at}
use Rattle.macho_exports.specs.declared.export_trie.ExportEdge.{ExportEdge}
use Rattle.macho_exports.specs.declared.export_trie.ExportNode.{ExportNode}
use Rattle.macho_exports.specs.Exports.{export_table}
use Rattle.macho_fields.specs.Bytes.{bytes_of}
use Rattle.macho_explain.proofs.Wholes.{at_offset}
use Rattle.macho_explain.specs.Compared.{HasAddress, HasNode, HasNodeAt, HasNodeWith, node_bounds}
use Rattle.macho_explain.specs.Explained.{IsNodeHere, image_in}
use Rattle.macho_explain.specs.declared.exports.NodeHere.{NodeHere}
use Rattle.macho_explain.specs.declared.sliced.Sliced.{Sliced}
use Rattle.macho_explain.specs.Explain.{IsSegmentFound, NoSegmentMeets}
use Rattle.macho_explain.specs.declared.segment.SegmentAt.{SegmentAt}
use Rattle.macho_explain.specs.declared.segment.SegmentWith.TheVariants as with

-- Nodes

pub mapped_some : {X Y : Type 0} (f : X → Y) (o : Option X) (y : Y) → Some y ≡ option_map f o → (x : X) × (o ≡ Some x) × (y ≡ f x)
mapped_some f None y is = absurd (none-some y (sym is))
mapped_some f (Some x) y is = (x, refl, same_Some y (f x) is)

pub mapped_none : {X Y : Type 0} (f : X → Y) (o : Option X) → None ≡ option_map f o → o ≡ None
mapped_none f None is = refl
mapped_none f (Some x) is = absurd (none-some (f x) is)

abbrev ended : (List ExportEdge × ℕ → Option ExportEdge) → List ExportEdge × ℕ → Option ExportEdge × ℕ
ended f edges = (f edges, edges.1)

module _ (trie : List ℕ) (place : ℕ) where
  -- no node begins there
  pub no_head : None ≡ head_at trie place → None ≡ option_map node_bounds (node_at trie place)
  unfolding node_at
  no_head none = rw (sym none) refl

  module _ (head : ExportNode) (begins : Some head ≡ head_at trie place) (f : List ExportEdge × ℕ → Option ExportEdge) where
    -- its edges do not end
    pub no_edges : None ≡ option_map (ended f) (edges_at head.edge_count trie head.edges) → None ≡ option_map node_bounds (node_at trie place)
    unfolding node_at
    no_edges none = rw (sym begins, mapped_none (ended f) _ none) refl

    -- they do
    pub whole_node : (first : Option ExportEdge) (end : ℕ) → Some (first, end) ≡ option_map (ended f) (edges_at head.edge_count trie head.edges)
        → Some (head.terminal, end) ≡ option_map node_bounds (node_at trie place)
    unfolding node_at
    whole_node first end is =
        let (edges, are, same) = mapped_some (ended f) (edges_at head.edge_count trie head.edges) (first, end) is in
        rw (sym begins, are) (ap (λ (p : Option ExportEdge × ℕ). Some (head.terminal, p.1)) same)

-- a place that has a node is one of the trie
pub has_place : (Q : List ℕ → List ℕ → Span → Type 0) (image : List ℕ) (place : ℕ) → HasNodeWith Q image place → HasNodeAt image place
has_place Q image place (opens, (table, bytes, is, offset, at, (near, has))) = (opens, (table, bytes, is, offset, at, near))

of_node : (P : Span × ℕ → Type 0) (bounds : Span × ℕ) (o : Option Node) → Some bounds ≡ option_map node_bounds o → IsSomeAnd o (λ node. P (node_bounds node)) → P bounds
of_node P bounds None is has = absurd has
of_node P bounds (Some node) is has = subst P (sym (same_Some bounds (node_bounds node) is)) has

module _ (Q : List ℕ → List ℕ → Span → Type 0) (sliced : Sliced) (node : NodeHere) (is : IsNodeHere sliced node) where
  -- what is said of the node that is there
  there : HasNodeWith Q (image_in sliced) sliced.place → HasNode (bytes_of node.trie) node.offset (λ terminal end. Q (image_in sliced) (bytes_of node.trie) terminal)
  there (opens, has) =
      (at_offset (image_in sliced) (export_table (image_in sliced)) node.table.span (bytes_of node.trie) is.whole
      (λ start trie offset. (offset ≤ length trie) × HasNode trie offset (λ terminal end. Q (image_in sliced) trie terminal)) sliced.place node.offset is.place has).1

  -- no node ends in the trie
  pub no_node : node.bounds ≡ None → ¬ HasNodeWith Q (image_in sliced) sliced.place
  no_node none has =
      let absent = mapped_none node_bounds (node_at (bytes_of node.trie) node.offset) (sym none ∙ is.bounds) in
      rw absent at (there has)

  -- one does, with this terminal part
  pub at_node : (bounds : Span × ℕ) → node.bounds ≡ Some bounds → HasNodeWith Q (image_in sliced) sliced.place → Q (image_in sliced) (bytes_of node.trie) bounds.0
  at_node bounds some has =
      of_node (λ b. Q (image_in sliced) (bytes_of node.trie) b.0) bounds (node_at (bytes_of node.trie) node.offset) (sym some ∙ is.bounds) (there has)

-- Segments

-- the segment that is found has the address
pub has_address : (image : List ℕ) (address : ℕ) (found : Option SegmentAt) → MatchOption found (NoSegmentMeets image (with.Address address)) (IsSegmentFound image (with.Address address)) → is_some found ≡ true → HasAddress image address
has_address image address None is none = absurd (false≢true none)
has_address image address (Some segment) is some =
    let row = is.row in (segment.place, omega (arith, is.meets.0, row.start), omega (arith, is.meets.1, row.start, row.size))
