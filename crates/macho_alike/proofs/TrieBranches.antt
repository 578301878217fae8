-- The branches along the edges of a node, as they are read.
use Rattle.std.proofs.Common.{◌≡◌, ◌∙◌, ℕ, suc, List, [], ◌∷◌, ◌++◌, map, Contains, Option, Some, None, refl, sym, ap, subst, inl, inr}
use Rattle.std.specs.Option.{option_map}
use Rattle.std.proofs.lemmas.List.{append-nil, append_assoc, map-append}
use Rattle.std.proofs.lemmas.List.Elements.{Contains-append_left, Contains-push, Contains-push_cases}
use Rattle.macho_fields.proofs.Lists.{none_in_nil}
use Rattle.macho_exports.specs.ExportTrie.{edge_at, edges_at}
use Rattle.macho_exports.specs.declared.export_trie.ExportEdge.{ExportEdge}
use Rattle.macho_exports.specs.declared.export_trie.ExportNode.{ExportNode}
use Rattle.macho_alike.proofs.TrieOrders.{part_skip, part_push}
use Rattle.macho_alike.specs.TrieWalks.{IsOfBranch, GoesOn, IsAlong, AreAllAlong, IsPart, AreBranches, AreBranchesOf}
use Rattle.macho_alike.specs.declared.names.Named.{Named}
use Rattle.macho_alike.specs.declared.trie.Branch.{Branch}

abbrev after : List ExportEdge → List ExportEdge × ℕ → List ExportEdge × ℕ
after done edges = (done ++ edges.0, edges.1)

-- so many edges from a place on, after others
abbrev pub edges_from : ℕ → List ℕ → ℕ → List ExportEdge → Option (List ExportEdge × ℕ)
edges_from count trie place done = option_map (after done) (edges_at count trie place)

abbrev place_of : Branch → ℕ
place_of branch = branch.place

abbrev child_of : ExportEdge → ℕ
child_of edge = edge.child

module _ (image trie : List ℕ) (names : List Named) (parent : Branch) where
  branches_none : AreBranches image trie names parent [] []
  branches_none = record {
    places = tt;
    along = λ branch has. absurd (none_in_nil branch has);
    all = λ edge has k of on. absurd (none_in_nil edge has);
  }

  module _ (done : List ExportEdge) (branches : List Branch) (edge : ExportEdge) (are : AreBranches image trie names parent done branches) where
    abbrev more : List ExportEdge
    more = done ++ edge ∷ []

    children_more : map child_of done ++ edge.child ∷ [] ≡ map child_of more
    children_more = sym (map-append child_of done (edge ∷ []))

    earlier : (other : ExportEdge) → Contains done other → Contains more other
    earlier other has = Contains-append_left done (edge ∷ []) other has

    -- no name goes on along the edge
    branches_skip : ((k : ℕ) → IsOfBranch parent k → ¬ GoesOn image trie names parent edge k) → AreBranches image trie names parent more branches
    branches_skip none = record {
      places = subst (λ (ps : List ℕ). IsPart (map place_of branches) ps) children_more (part_skip (map place_of branches) (map child_of done) edge.child are.places);
      along = λ branch has. let (other, among, goes) = are.along branch has in (other, earlier other among, goes);
      all = λ other has k of on. elim (Contains-push_cases done edge other has) [
        | inl before ↦ are.all other before k of on
        | inr same ↦ absurd (none k of (subst (λ (e : ExportEdge). GoesOn image trie names parent e k) (sym same) on))
      ];
    }

    -- some do
    branches_push : (branch : Branch) → IsAlong image trie names parent edge branch → ((k : ℕ) → IsOfBranch parent k → GoesOn image trie names parent edge k → IsOfBranch branch k)
        → AreBranches image trie names parent more (branches ++ branch ∷ [])
    branches_push branch goes within = record {
      places =
          let same : map place_of (branches ++ branch ∷ []) ≡ map place_of branches ++ branch.place ∷ [] = map-append place_of branches (branch ∷ []) in
          let kept = part_push (map place_of branches) (map child_of done) edge.child are.places in
          subst (λ (ps : List ℕ). IsPart ps (map child_of more)) (ap (λ (p : ℕ). map place_of branches ++ p ∷ []) (sym goes.place) ∙ sym same)
          (subst (λ (ps : List ℕ). IsPart (map place_of branches ++ edge.child ∷ []) ps) children_more kept);
      along = λ other has. elim (Contains-push_cases branches branch other has) [
        | inl before ↦ let (e, among, along) = are.along other before in (e, earlier e among, along)
        | inr same ↦ (edge, Contains-push done edge, subst (IsAlong image trie names parent edge) same goes)
      ];
      all = λ other has k of on. elim (Contains-push_cases done edge other has) [
        | inl before ↦ let (b, among, along, in_it) = are.all other before k of on in (b, Contains-append_left branches (branch ∷ []) b among, along, in_it)
        | inr same ↦ (
          branch,
          Contains-push branches branch,
          subst (λ (e : ExportEdge). IsAlong image trie names parent e branch) same goes,
          within k of (subst (λ (e : ExportEdge). GoesOn image trie names parent e k) (sym same) on),
        )
      ];
    }

  -- As the code has it

  -- some edges of the node were read, and these are their branches; so many are left, from a place on
  pub record AreRead (node : ExportNode) (left place : ℕ) (branches : List Branch) : Type 0 where
    pub done : List ExportEdge
    pub rest : edges_from left trie place done ≡ edges_at node.edge_count trie node.edges
    pub are : AreBranches image trie names parent done branches

  module _ (node : ExportNode) where
    pub read_start : AreRead node node.edge_count node.edges []
    read_start = record { done = []; rest = each (edges_at node.edge_count trie node.edges); are = branches_none }
      where
        each : (edges : Option (List ExportEdge × ℕ)) → option_map (after []) edges ≡ edges
        each None = refl
        each (Some e) = refl

    module _ (left place : ℕ) (branches : List Branch) (read : AreRead node (suc left) place branches) where
      pub read_over : edge_at trie place ≡ None → AreBranchesOf image trie names parent node branches None
      read_over none = sym read.rest ∙ rw none refl

      module _ (edge : ExportEdge) (next : ℕ) (at : edge_at trie place ≡ Some (edge, next)) where
        rest_next : edges_from left trie next (read.done ++ edge ∷ []) ≡ edges_at node.edge_count trie node.edges
        rest_next = sym (rw at (each (edges_at left trie next))) ∙ read.rest
          where
            each : (others : Option (List ExportEdge × ℕ)) → option_map (after read.done) (option_map (λ o. (edge ∷ o.0, o.1)) others) ≡ option_map (after (read.done ++ edge ∷ [])) others
            each None = refl
            each (Some o) = ap (λ (edges : List ExportEdge). Some (edges, o.1)) (sym (append_assoc read.done (edge ∷ []) o.0))

        pub read_skip : (found : Option Branch) → found ≡ None → AreAllAlong image trie names parent edge found → AreRead node left next branches
        read_skip found none along = record {
          done = read.done ++ edge ∷ [];
          rest = rest_next;
          are = branches_skip read.done branches edge read.are (subst (AreAllAlong image trie names parent edge) none along);
        }

        pub read_push : (found : Option Branch) (branch : Branch) → found ≡ Some branch → AreAllAlong image trie names parent edge found → AreRead node left next (branches ++ branch ∷ [])
        read_push found branch some along =
            let (goes, within) = subst (AreAllAlong image trie names parent edge) some along in
            record {
              done = read.done ++ edge ∷ [];
              rest = rest_next;
              are = branches_push read.done branches edge read.are branch goes within;
            }

    pub read_end : (place : ℕ) (branches : List Branch) → AreRead node 0 place branches → AreBranchesOf image trie names parent node branches (Some place)
    read_end place branches read = (read.done, sym read.rest ∙ ap (λ (edges : List ExportEdge). Some (edges, place)) (append-nil read.done), read.are)
