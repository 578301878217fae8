-- The edges of a node of an export trie.
use Rattle.std.proofs.Common.{◌≡◌, ◌∙◌, ℕ, zero, suc, List, [], ◌∷◌, map, Option, Some, None, refl, sym, ap, subst}
use Rattle.std.specs.Prelude.{IfSome}
use Rattle.std.specs.Option.{option_map, option_map_or}
use Rattle.std.proofs.lemmas.Option.{same_Some, none-some}
use Rattle.macho_exports.specs.ExportTrie.{Node, node_at, head_at, edge_at, edges_at}
use Rattle.macho_exports.specs.declared.export_trie.Export.{Export}
use Rattle.macho_exports.specs.declared.export_trie.ExportEdge.{ExportEdge}
use Rattle.macho_exports.specs.declared.export_trie.ExportNode.{ExportNode}
use Rattle.macho_c.specs.ExportNodes.{edges_from, edges_left, edge_row, first_edge, bare_row, node_row, terminal_export}
use Rattle.macho_c.specs.Exports.{export_row}
use Rattle.macho_rows.specs.declared.cursor.KesvuotCursor.{KesvuotCursor}

-- All edges of a node

whole_from : (trie : List ℕ) (count offset : ℕ) (edges : List ExportEdge) (end : ℕ) → edges_at count trie offset ≡ Some (edges, end) → edges_from count trie offset ≡ edges
whole_from trie zero offset edges end is = ap (λ (p : List ExportEdge × ℕ). p.0) (same_Some ([], offset) (edges, end) is)
whole_from trie (suc count) offset edges end is = by_edge (whole_from trie count) (edge_at trie offset) refl
  where
    by_edge : ((place : ℕ) (found : List ExportEdge) (past : ℕ) → edges_at count trie place ≡ Some (found, past) → edges_from count trie place ≡ found) → (o : Option (ExportEdge × ℕ)) → edge_at trie offset ≡ o → edges_from (suc count) trie offset ≡ edges
    by_edge later None none = absurd (none-some (edges, end) (rw none at is))
    by_edge later (Some e) at_edge = by_others (edges_at count trie e.1) refl
      where
        by_others : (o : Option (List ExportEdge × ℕ)) → edges_at count trie e.1 ≡ o → edges_from (suc count) trie offset ≡ edges
        by_others None none = absurd (none-some (edges, end) (rw (at_edge, none) at is))
        by_others (Some others) rest =
            rw (at_edge, later e.1 others.0 others.1 rest) (ap (λ (p : List ExportEdge × ℕ). p.0) (same_Some (e.0 ∷ others.0, others.1) (edges, end) (rw (at_edge, rest) at is)))

abbrev whole_of : ExportNode → List ExportEdge × ℕ → Node
whole_of head edges = record { terminal = head.terminal; edges = edges.0; end = edges.1 }

-- those that remain at the cursor of a node are all, if the whole node ends in the trie
pub all_edges : (place : ℕ) (trie : List ℕ) (offset : ℕ) (head : ExportNode) → head_at trie offset ≡ Some head
    → IfSome (node_at trie offset) (λ whole. edges_left place trie (first_edge head) ≡ map (edge_row place trie) whole.edges)
unfolding node_at
all_edges place trie offset head is = rw is (by_edges (edges_at head.edge_count trie head.edges) refl)
  where
    by_edges : (o : Option (List ExportEdge × ℕ)) → edges_at head.edge_count trie head.edges ≡ o
        → IfSome (option_map (whole_of head) o) (λ whole. edges_left place trie (first_edge head) ≡ map (edge_row place trie) whole.edges)
    by_edges None none = tt
    by_edges (Some edges) whole = ap (map (edge_row place trie)) (whole_from trie head.edge_count head.edges edges.0 edges.1 whole)

-- no node begins where nothing does
pub no_whole : (P : Node → Type 0) (trie : List ℕ) (offset : ℕ) → head_at trie offset ≡ None → IfSome (node_at trie offset) P
unfolding node_at
no_whole P trie offset is = rw is tt

-- the cursor of a row is at its first edge
pub node_edges : (base place : ℕ) (trie : List ℕ) (head : ExportNode) → (node_row base place trie head).edges ≡ first_edge head
node_edges base place trie head = by (terminal_export trie head.terminal)
  where
    by : (o : Option Export)
        → (option_map_or (λ export. record (bare_row place trie head) { exported = export_row base place trie export; has_export = 1 }) o (bare_row place trie head)).edges ≡ first_edge head
    by None = refl
    by (Some export) = refl

pub node_whole : (place : ℕ) (trie bytes : List ℕ) (offset : ℕ) (head : ExportNode) (edges : KesvuotCursor) → bytes ≡ trie → Some head ≡ head_at bytes offset → edges ≡ first_edge head
    → IfSome (node_at trie offset) (λ whole. edges_left place trie edges ≡ map (edge_row place trie) whole.edges)
node_whole place trie bytes offset head edges same is at_first =
    subst (λ (cursor : KesvuotCursor). IfSome (node_at trie offset) (λ whole. edges_left place trie cursor ≡ map (edge_row place trie) whole.edges)) (sym at_first)
    (all_edges place trie offset head (sym (is ∙ ap (λ (b : List ℕ). head_at b offset) same)))
