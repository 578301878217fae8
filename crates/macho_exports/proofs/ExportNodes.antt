-- The nodes of the export trie that wait: how the edges of one are read, and which wait then.
use Rattle.std.proofs.Common.{◌≡◌, ◌∙◌, ◌↔◌, ℕ, suc, ◌+◌, ◌-◌, ◌≤◌, ◌<◌, List, [], ◌∷◌, ◌++◌, length, reverse, map, Option, Some, None, IsSome, refl, sym, ap, arith}
use Rattle.std.specs.Option.{option_map, option_to_list}
use Rattle.std.proofs.lemmas.List.{append-nil, append_assoc, reverse-append, reverse-reverse}
use Rattle.std.proofs.lemmas.Bool.{false≢true}
use Rattle.std.proofs.lemmas.Option.{same_Some}
use Rattle.macho_exports.specs.ExportTrie.{edge_at, edges_at, head_at, node_at}
use Rattle.macho_exports.specs.ExportNodes.{AreChildren, IsMetAt, IsNextPlace}
use Rattle.macho_exports.specs.declared.export_trie.ExportEdge.{ExportEdge}
use Rattle.macho_exports.specs.declared.export_trie.ExportNode.{ExportNode}
use Rattle.macho_exports.proofs.ExportTries.{head_within, edges_within}

-- where some edges lead
abbrev targets : List ExportEdge → List ℕ
targets edges = map (λ (edge : ExportEdge). edge.child) edges

abbrev with_edges : List ℕ → List ExportEdge × ℕ → List ℕ × ℕ
with_edges before edges = (before ++ targets edges.0, edges.1)

-- some places with those to which so many edges from a place on lead, and the place past these
abbrev pub read_from : ℕ → List ℕ → ℕ → List ℕ → Option (List ℕ × ℕ)
read_from count trie place before = option_map (with_edges before) (edges_at count trie place)

pub read_end : (trie : List ℕ) (place : ℕ) (before : List ℕ) → read_from 0 trie place before ≡ Some (before, place)
read_end trie place before = ap (λ (places : List ℕ). Some (places, place)) (append-nil before)

pub read_stuck : (count : ℕ) (trie : List ℕ) (place : ℕ) (before : List ℕ) → edge_at trie place ≡ None → read_from (suc count) trie place before ≡ None
read_stuck count trie place before is = rw is refl

pub read_more : (count : ℕ) (trie : List ℕ) (place : ℕ) (before : List ℕ) (edge : ExportEdge) (next : ℕ) → edge_at trie place ≡ Some (edge, next)
    → read_from (suc count) trie place before ≡ read_from count trie next (before ++ edge.child ∷ [])
read_more count trie place before edge next is = rw is (each (edges_at count trie next))
  where
    each : (others : Option (List ExportEdge × ℕ))
        → option_map (with_edges before) (option_map (λ o. (edge ∷ o.0, o.1)) others) ≡ option_map (with_edges (before ++ edge.child ∷ [])) others
    each None = refl
    each (Some o) = ap (λ (places : List ℕ). Some (places, o.1)) (sym (append_assoc before (edge.child ∷ []) (targets o.0)))

-- the same in a loop
pub read_next : (end counter : ℕ) (trie : List ℕ) (place : ℕ) (before : List ℕ) (edge : ExportEdge) (next : ℕ) → counter < end → edge_at trie place ≡ Some (edge, next)
    → read_from (end - (counter + 1)) trie next (before ++ edge.child ∷ []) ≡ read_from (end - counter) trie place before
read_next end counter trie place before edge next less is =
    let step : end - counter ≡ suc (end - (counter + 1)) = omega arith in
    rw step (sym (read_more (end - (counter + 1)) trie place before edge next is))

pub read_over : (end counter : ℕ) (trie : List ℕ) (place : ℕ) (before : List ℕ) → counter < end → edge_at trie place ≡ None → read_from (end - counter) trie place before ≡ None
read_over end counter trie place before less is =
    let step : end - counter ≡ suc (end - (counter + 1)) = omega arith in
    rw step (read_stuck (end - (counter + 1)) trie place before is)

pub read_all : (end counter : ℕ) (trie : List ℕ) (place : ℕ) (before : List ℕ) → end ≤ counter → read_from (end - counter) trie place before ≡ Some (before, place)
read_all end counter trie place before done =
    let none : end - counter ≡ 0 = omega arith in
    rw none (read_end trie place before)

module _ (trie : List ℕ) (node : ExportNode) (old : List ℕ) where
  pub children_read : (new : List ℕ) (end : ℕ) → Some (new, end) ≡ read_from node.edge_count trie node.edges old → AreChildren trie node old new (Some end)
  children_read new end = by_edges (edges_at node.edge_count trie node.edges) refl
    where
      by_edges : (edges : Option (List ExportEdge × ℕ)) → edges_at node.edge_count trie node.edges ≡ edges → Some (new, end) ≡ option_map (with_edges old) edges
          → AreChildren trie node old new (Some end)
      by_edges None at is = absurd (cc)
      by_edges (Some e) at is =
          let same = same_Some (new, end) (with_edges old e) is in
          let other : end ≡ e.1 = ap (λ (r : List ℕ × ℕ). r.1) same in
          (e.0, at ∙ ap (λ (n : ℕ). Some (e.0, n)) (sym other), ap (λ (r : List ℕ × ℕ). r.0) same)

  pub children_endless : (new : List ℕ) → None ≡ read_from node.edge_count trie node.edges old → AreChildren trie node old new None
  children_endless new = by_edges (edges_at node.edge_count trie node.edges)
    where
      by_edges : (edges : Option (List ExportEdge × ℕ)) → None ≡ option_map (with_edges old) edges → edges ≡ None
      by_edges None is = refl
      by_edges (Some e) is = absurd (cc)

-- The nodes that wait

pub next_place : (old new : List ℕ) (next : Option ℕ) → old ≡ new ++ option_to_list next → (IsSome next ↔ (0 < length old)) → IsNextPlace (reverse old) (reverse new) next
next_place [] new None is some = refl
next_place (place ∷ old) new None is some = absurd (false≢true (some.1 (omega arith)))
next_place old new (Some place) is some = ap reverse is ∙ reverse-append new (place ∷ [])

-- the children of a node come before the others
pub children_first : (stack places : List ℕ) → reverse (stack ++ reverse places) ≡ places ++ reverse stack
children_first stack places = reverse-append stack (reverse places) ∙ ap (λ (p : List ℕ). p ++ reverse stack) (reverse-reverse places)

module _ (trie : List ℕ) (place : ℕ) where
  pub met_headless : head_at trie place ≡ None → node_at trie place ≡ None
  unfolding node_at
  met_headless is = rw is refl

  pub met_edgeless : (head : ExportNode) → head_at trie place ≡ Some head → edges_at head.edge_count trie head.edges ≡ None → node_at trie place ≡ None
  unfolding node_at
  met_edgeless head is none = rw (is, none) refl

  pub met_node : (head : ExportNode) (edges : List ExportEdge) (end : ℕ) → head_at trie place ≡ Some head → edges_at head.edge_count trie head.edges ≡ Some (edges, end)
      → node_at trie place ≡ Some (record { terminal = head.terminal; edges = edges; end = end })
  unfolding node_at
  met_node head edges end is some = rw (is, some) refl

  -- what is read, and which wait then
  pub met_children : (head : ExportNode) (end : ℕ) (stack fresh : List ℕ) → head_at trie place ≡ Some head → AreChildren trie head [] fresh (Some end)
      → IsMetAt trie place (reverse stack) (reverse (stack ++ reverse fresh)) (Some (record { terminal = head.terminal; end = end }))
  met_children head end stack fresh is (edges, at, are) = (
    record { terminal = head.terminal; edges = edges; end = end },
    met_node head edges end is at,
    refl,
    refl,
    children_first stack fresh ∙ ap (λ (p : List ℕ). p ++ reverse stack) are,
  )

  pub met_within : (head : ExportNode) (end : ℕ) (old fresh : List ℕ) → head_at trie place ≡ Some head → AreChildren trie head old fresh (Some end)
      → (place < end) × (head.terminal.start + head.terminal.len ≤ length trie)
  met_within head end old fresh is (edges, at, are) =
      let (begins, inside) = head_within trie place head is in
      let goes = edges_within head.edge_count trie head.edges (edges, end) at in
      (omega (arith, begins, goes), inside)
