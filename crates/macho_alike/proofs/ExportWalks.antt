-- The walk over the nodes of the export trie, and the least place of an unclear node so far.
use Rattle.std.proofs.Common.{◌≡◌, ◌∙◌, ◌↔◌, ℕ, zero, suc, ◌+◌, ◌-◌, ◌^◌, ◌≤◌, ◌<◌, List, [], ◌∷◌, ◌++◌, length, Bool, cond, Option, Some, None, IsTrue, refl, sym, ap, subst, arith}
use Rattle.std.specs.Prelude.{nat_lt, IsSomeAnd, IfSome}
use Rattle.std.specs.Option.{option_map, option_map_or}
use Rattle.std.proofs.lemmas.Bool.{lt-ltb, le-ltb}
use Rattle.std.proofs.lemmas.List.{append-nil, append_assoc}
use Rattle.std.proofs.lemmas.Option.{same_Some, none-some}
use Rattle.macho_fields.proofs.Options.{some_of, of_some}
use Rattle.macho_fields.specs.FirstPlace.{IsLeastPlace}
use Rattle.macho_exports.specs.ExportNodes.{IsMetAt}
use Rattle.macho_exports.specs.ExportTrie.{Node, node_at}
use Rattle.macho_exports.specs.ExportWalk.{Met, walk, met_nodes, children, AtMet, own_place}
use Rattle.macho_spans.specs.declared.span.Span.{Span}
use Rattle.macho_fields.specs.Field.{part}
use Rattle.macho_exports.specs.Exports.{IsNotedLeast, export_table}
use Rattle.macho_exports.specs.declared.export_walk.MetNode.{MetNode}
use Rattle.macho_exports.proofs.ExportSurveys.{least_kept, least_noted}
use Rattle.macho_exports.proofs.ExportTables.{fits_up_to, node_rule_near}
use Rattle.macho_tables.proofs.Places.{least_moved}
use Rattle.macho_alike.specs.Exports.{HasClash, HasClashAt, IsUnclear, UnclearNode, BreaksExportEdge, labels_of}

-- some nodes were met, and these wait
pub record IsWalkedTo (trie : List ℕ) (left : ℕ) (waiting : List ℕ) (least : Option ℕ) : Type 0 where
  pub done : List Met
  pub most : ℕ
  pub enough : left < most
  pub rest : met_nodes trie ≡ done ++ walk most trie left waiting
  pub noted : IsLeastPlace (AtMet own_place (IsUnclear trie) done) least

-- what follows a node in the walk
abbrev follows : List ℕ → ℕ → ℕ → ℕ → List ℕ → Node → List Met
follows trie most left place waiting node =
    cond (nat_lt left (node.end - place)) [] (walk most trie (left - (node.end - place)) (children node ++ waiting))

module _ (trie : List ℕ) where
  pub walked_start : IsWalkedTo trie (length trie) (0 ∷ []) None
  walked_start = record {
    done = [];
    most = length trie + 1;
    enough = omega arith;
    rest = refl;
    noted = λ place (met, (k, less, at), _, _). absurd (omega (arith, less));
  }

  -- no node waits
  pub walked_all : (left : ℕ) (least : Option ℕ) → IsWalkedTo trie left [] least → IsLeastPlace (UnclearNode trie) least
  walked_all left least are =
      let all : are.done ≡ met_nodes trie = sym (are.rest ∙ (ap (λ (r : List Met). are.done ++ r) (none are.most) ∙ append-nil are.done)) in
      subst (λ (n : List Met). IsLeastPlace (AtMet own_place (IsUnclear trie) n) least) all are.noted
    where
      none : (most : ℕ) → walk most trie left [] ≡ []
      none zero = refl
      none (suc most) = refl

  module _ (left place : ℕ) (waiting : List ℕ) (least : Option ℕ) (are : IsWalkedTo trie left (place ∷ waiting) least) where
    abbrev here : Met
    here = record { place = place; left = left }

    abbrev with_this : List Met
    with_this = are.done ++ here ∷ []

    step : (most : ℕ) → left < most → (after : ℕ → List Met) → ((m : ℕ) → option_map_or (follows trie m left place waiting) (node_at trie place) [] ≡ after m)
        → (m : ℕ) × (most ≡ suc m) × (are.done ++ walk most trie left (place ∷ waiting) ≡ with_this ++ after m)
    step zero few after is = absurd (omega arith)
    step (suc m) few after is =
        (m, refl, ap (λ (r : List Met). are.done ++ here ∷ r) (is m) ∙ sym (append_assoc are.done (here ∷ []) (after m)))

    -- the walk ends at this node, which is not unclear
    last : ((m : ℕ) → option_map_or (follows trie m left place waiting) (node_at trie place) [] ≡ []) → ¬ IsUnclear trie here → IsLeastPlace (UnclearNode trie) least
    last ends clear =
        let (m, is, same) = step are.most are.enough (λ m. []) ends in
        let all : with_this ≡ met_nodes trie = sym (are.rest ∙ (same ∙ append-nil with_this)) in
        subst (λ (n : List Met). IsLeastPlace (AtMet own_place (IsUnclear trie) n) least) all (least_kept own_place (IsUnclear trie) are.done here least clear are.noted)

    -- it does not end
    pub walked_endless : node_at trie place ≡ None → IsLeastPlace (UnclearNode trie) least
    walked_endless none =
        last (λ m. rw none refl) (λ has. let (node, is, _) = some_of _ (node_at trie place) has in none-some node (sym none ∙ is))

    module _ (node : Node) (is : node_at trie place ≡ Some node) where
      -- what is said of it
      of_node : (P : Node → Type 0) → IsSomeAnd (node_at trie place) P → P node
      of_node P has = let (other, there, so) = some_of P (node_at trie place) has in subst P (same_Some other node (sym there ∙ is)) so

      -- it has too many bytes
      pub walked_past : left < node.end - place → IsLeastPlace (UnclearNode trie) least
      walked_past past =
          last (λ m. rw (is, lt-ltb left (node.end - place) past) refl)
          (λ has. let (fits, _) = of_node (λ n. (n.end - place ≤ left) × HasClash (labels_of trie n)) has in omega (arith, fits, past))

      -- it is met
      pub walked_more : place < node.end → node.end - place ≤ left → (clash : Bool) (new : Option ℕ) → IsTrue clash ↔ HasClashAt trie place → IsNotedLeast clash place least new
          → IsWalkedTo trie (left - (node.end - place)) (children node ++ waiting) new
      walked_more some fits clash new says noted =
          let (m, most, same) = step are.most are.enough (λ m. walk m trie (left - (node.end - place)) (children node ++ waiting)) (λ m. rw (is, le-ltb left (node.end - place) fits) refl) in
          let enough = are.enough in
          record {
            done = with_this;
            most = m;
            enough = omega (arith, enough, most, some, fits);
            rest = are.rest ∙ same;
            noted = least_noted own_place (IsUnclear trie) are.done here clash least new (
              λ so. of_some (λ n. (n.end - place ≤ left) × HasClash (labels_of trie n)) (node_at trie place) node is (fits, of_node (λ n. HasClash (labels_of trie n)) (says.0 so)),
              λ has. says.1 (of_some (λ n. HasClash (labels_of trie n)) (node_at trie place) node is (of_node (λ n. (n.end - place ≤ left) × HasClash (labels_of trie n)) has).1),
            ) noted are.noted;
          }

-- As the code has it

module _ (trie : List ℕ) (left place : ℕ) (old waiting after : List ℕ) (least : Option ℕ) (next : old ≡ place ∷ waiting) (are : IsWalkedTo trie left old least) where
  now : IsWalkedTo trie left (place ∷ waiting) least
  now = subst (λ (w : List ℕ). IsWalkedTo trie left w least) next are

  pub search_endless : (met : Option MetNode) → met ≡ None → IsMetAt trie place waiting after met → IsLeastPlace (UnclearNode trie) least
  search_endless met none read = walked_endless trie left place waiting least now (subst (IsMetAt trie place waiting after) none read)

  module _ (met : Option MetNode) (m : MetNode) (some : met ≡ Some m) (read : IsMetAt trie place waiting after met) where
    pub search_past : left < m.end - place → IsLeastPlace (UnclearNode trie) least
    search_past past =
        let (node, at, terminal, end, are_children) = subst (IsMetAt trie place waiting after) some read in
        walked_past trie left place waiting least now node at (subst (λ (e : ℕ). left < e - place) end past)

    pub search_more : place < m.end → m.end - place ≤ left → (rest : ℕ) → rest ≡ left - (m.end - place) → (clash : Bool) (new : Option ℕ)
        → IsTrue clash ↔ HasClashAt trie place → IsNotedLeast clash place least new → IsWalkedTo trie rest after new
    search_more begins fits rest is clash new says noted =
        let (node, at, terminal, end, are_children) = subst (IsMetAt trie place waiting after) some read in
        let more = walked_more trie left place waiting least now node at (subst (λ (e : ℕ). place < e) end begins) (subst (λ (e : ℕ). e - place ≤ left) end fits) clash new says noted in
        let rest_is : rest ≡ left - (node.end - place) = is ∙ ap (λ (e : ℕ). left - (e - place)) end in
        subst (λ (w : List ℕ). IsWalkedTo trie rest w new) (sym are_children)
        (subst (λ (n : ℕ). IsWalkedTo trie n (children node ++ waiting) new) (sym rest_is) more)

-- From the trie to the image

pub edge_fits : (trie : List ℕ) (start : ℕ) (found : Option ℕ) → start + length trie < 2 ^ 64 → IsLeastPlace (UnclearNode trie) found → IfSome found (λ offset. start + offset < 2 ^ 64)
edge_fits trie start found fits = fits_up_to (UnclearNode trie) start (length trie) found (node_rule_near trie (λ met node. (node.end - met.place ≤ met.left) × HasClash (labels_of trie node)) (met_nodes trie)) fits

pub edge_listed : (image : List ℕ) (table : Span) (found : Option ℕ) → export_table image ≡ Some table → IsLeastPlace (UnclearNode (part table.start table.len image)) found
    → IsLeastPlace (BreaksExportEdge image) (option_map (λ offset. table.start + offset) found)
edge_listed image table found is least =
    subst
    (λ (o : Option Span). IsLeastPlace (λ place. IsSomeAnd o (λ t. (offset : ℕ) × (place ≡ t.start + offset) × UnclearNode (part t.start t.len image) offset)) (option_map (λ offset. table.start + offset) found))
    (sym is) (least_moved (UnclearNode (part table.start table.len image)) table.start found least)
