-- Where the rule export-edge is unbroken, a name leads to one node of the export trie, and a look-up finds it.
use Rattle.std.proofs.Common.{◌≡◌, ◌≢◌, ◌∙◌, ℕ, zero, suc, ◌+◌, ◌-◌, ◌==◌, ◌≤◌, ◌<◌, List, [], ◌∷◌, ◌++◌, length, map, take, drop, Contains, Bool, true, false, cond, Option, Some, None, refl, sym, ap, subst, arith, inl, inr, length-append}
use Rattle.std.specs.Prelude.{find, nat_eq, nat_lt, ◌&&◌}
use Rattle.std.specs.List.{starts_with}
use Rattle.std.specs.Option.{option_and_then}
use Rattle.std.proofs.lemmas.Bool.{cases_lt, cases_Bool, lt-ltb, le-ltb, ne_eqb, eqb-true, ltb-true, true≢false}
use Rattle.std.proofs.lemmas.List.{take_at, drop_at, take-take, take-append-drop}
use Rattle.std.proofs.lemmas.List.Elements.{Contains-append_left, Contains-append_right}
use Rattle.std.proofs.lemmas.Option.{same_Some, none-some}
use Rattle.macho_fields.proofs.Lists.{any_of, contains_first, contains_later, contains_mapped, first_or_later, none_in_nil}
use Rattle.macho_fields.proofs.Options.{of_some}
use Rattle.macho_fields.specs.Field.{part}
use Rattle.macho_image.proofs.ReadParts.{length-part}
use Rattle.macho_rules.proofs.Searches.{one_of}
use Rattle.macho_spans.specs.declared.span.Span.{Span}
use Rattle.macho_exports.specs.ExportLaw.{IsWay, way_bytes}
use Rattle.macho_exports.specs.ExportTrie.{Node, node_at, head_at, edge_at, edges_at, begins_with, ends, terminal_from, find_terminal}
use Rattle.macho_exports.specs.ExportWalk.{Met, walk, met_nodes, children, AtMet, HasNoEnd, PassesTable}
use Rattle.macho_exports.specs.Exports.{EndlessNode, TooManyBytes, InExports, export_table, BreaksExportNode, BreaksExportTotal}
use Rattle.macho_exports.specs.declared.export_trie.ExportEdge.{ExportEdge}
use Rattle.macho_exports.specs.declared.export_trie.ExportNode.{ExportNode}
use Rattle.macho_exports.proofs.ExportLaws.{AreWhole, node_begins, whole_step, bytes_at, leads_on, look_on, short_ways}
use Rattle.macho_exports.proofs.ExportNodes.{met_headless, met_edgeless, met_node}
use Rattle.macho_exports.proofs.ExportSurveys.{HaveNone}
use Rattle.macho_exports.proofs.ExportTries.{then_some, made_some, edge_within}
use Rattle.macho_alike.proofs.Labels.{begins, begun}
use Rattle.macho_alike.specs.ExportModels.{IsPath, spelled, IsListed, IsFound, IsExportOf, HasOneExport, HasOneExportOfName}
use Rattle.macho_alike.specs.Exports.{label_of, labels_of, Clash, HasClash, IsUnclear, UnclearNode, BreaksExportEdge}

-- The nodes to which edges lead from the root are met

module _ (trie : List ℕ) where
  -- the rest of a walk
  walk_is : (m left place : ℕ) (waiting : List ℕ) (node : Node) → node_at trie place ≡ Some node → node.end - place ≤ left
      → walk (suc m) trie left (place ∷ waiting) ≡ record { place = place; left = left } ∷ walk m trie (left - (node.end - place)) (children node ++ waiting)
  walk_is m left place waiting node at fits = rw (at, le-ltb left (node.end - place) fits) refl

  abbrev IsAmong : List Met → ℕ → Type 0
  IsAmong nodes place = (met : Met) × Contains nodes met × (met.place ≡ place)

  among_later : (m left place : ℕ) (waiting : List ℕ) (node : Node) → node_at trie place ≡ Some node → node.end - place ≤ left → (p : ℕ)
      → IsAmong (walk m trie (left - (node.end - place)) (children node ++ waiting)) p → IsAmong (walk (suc m) trie left (place ∷ waiting)) p
  among_later m left place waiting node at fits p (met, among, is) =
      (met, subst (λ (nodes : List Met). Contains nodes met) (sym (walk_is m left place waiting node at fits)) (contains_later _ met _ among), is)

  -- each node that waits is
  waiting_met : (m left : ℕ) (waiting : List ℕ) → left < m → AreWhole trie (walk m trie left waiting) → (p : ℕ) → Contains waiting p → IsAmong (walk m trie left waiting) p
  waiting_met zero left waiting enough whole p has = absurd (omega arith)
  waiting_met (suc m) left [] enough whole p has = absurd (none_in_nil p has)
  waiting_met (suc m) left (place ∷ waiting) enough whole p has =
      let (node, at, fits, rest) = whole_step trie m left place waiting whole in
      let begins = node_begins trie place node at in
      elim (first_or_later place p waiting has) [
        | inl same ↦ (
          record { place = place; left = left },
          subst (λ (nodes : List Met). Contains nodes (record { place = place; left = left })) (sym (walk_is m left place waiting node at fits)) (contains_first _ _),
          same,
        )
        | inr later ↦ among_later m left place waiting node at fits p
            (waiting_met m (left - (node.end - place)) (children node ++ waiting) (omega (arith, begins, fits, enough)) rest p (Contains-append_right (children node) waiting p later))
      ]

  -- and each child of a node that is met
  children_met : (m left : ℕ) (waiting : List ℕ) → left < m → AreWhole trie (walk m trie left waiting) → (met : Met) → Contains (walk m trie left waiting) met
      → (parent : Node) → node_at trie met.place ≡ Some parent → (p : ℕ) → Contains (children parent) p → IsAmong (walk m trie left waiting) p
  children_met zero left waiting enough whole met among parent at p has = absurd (omega arith)
  children_met (suc m) left [] enough whole met among parent at p has = absurd (none_in_nil met among)
  children_met (suc m) left (place ∷ waiting) enough whole met among parent at_parent p has =
      let (node, at, fits, rest) = whole_step trie m left place waiting whole in
      let begins = node_begins trie place node at in
      let less : left - (node.end - place) < m = omega (arith, begins, fits, enough) in
      let later = among_later m left place waiting node at fits p in
      elim (first_or_later _ met _ (subst (λ (nodes : List Met). Contains nodes met) (walk_is m left place waiting node at fits) among)) [
        | inl same ↦
            let one : parent ≡ node = same_Some parent node (sym at_parent ∙ (ap (λ (n : Met). node_at trie n.place) (sym same) ∙ at)) in
            later (waiting_met m (left - (node.end - place)) (children node ++ waiting) less rest p
            (Contains-append_left (children node) waiting p (subst (λ (n : Node). Contains (children n) p) one has)))
        | inr after ↦ later (children_met m (left - (node.end - place)) (children node ++ waiting) less rest met after parent at_parent p has)
      ]

-- Labels

-- a label lies in the table
edges_inside : (count : ℕ) (trie : List ℕ) (place : ℕ) (r : List ExportEdge × ℕ) → edges_at count trie place ≡ Some r → (edge : ExportEdge) → Contains r.0 edge → edge.label.start + edge.label.len ≤ length trie
edges_inside zero trie place r is edge has =
    let none : [] ≡ r.0 = ap (λ (x : List ExportEdge × ℕ). x.0) (same_Some ([], place) r is) in
    absurd (none_in_nil edge (subst (λ (es : List ExportEdge). Contains es edge) (sym none) has))
edges_inside (suc count) trie place r is edge has =
    let (first, at, then) = then_some _ (edge_at trie place) r is in
    let (others, more, same) = made_some _ (edges_at count trie first.1) r then in
    let list : first.0 ∷ others.0 ≡ r.0 = ap (λ (x : List ExportEdge × ℕ). x.0) same in
    elim (first_or_later first.0 edge others.0 (subst (λ (es : List ExportEdge). Contains es edge) (sym list) has)) [
      | inl here ↦ subst (λ (e : ExportEdge). e.label.start + e.label.len ≤ length trie) here (edge_within trie place first.0 first.1 at).1
      | inr later ↦ edges_inside count trie first.1 others more edge later
    ]

pub node_edges_inside : (trie : List ℕ) (place : ℕ) (node : Node) → node_at trie place ≡ Some node → (edge : ExportEdge) → Contains node.edges edge → edge.label.start + edge.label.len ≤ length trie
node_edges_inside trie place node is edge has = by_head (head_at trie place) refl
  where
    by_edges : (head : ExportNode) (edges : Option (List ExportEdge × ℕ)) → head_at trie place ≡ Some head → edges_at head.edge_count trie head.edges ≡ edges → edge.label.start + edge.label.len ≤ length trie
    by_edges head None some none = absurd (none-some node (sym (met_edgeless trie place head some none) ∙ is))
    by_edges head (Some edges) some at =
        let same = ap (λ (n : Node). n.edges) (same_Some _ node (sym (met_node trie place head edges.0 edges.1 some at) ∙ is)) in
        edges_inside head.edge_count trie head.edges edges at edge (subst (λ (es : List ExportEdge). Contains es edge) (sym same) has)

    by_head : (head : Option ExportNode) → head_at trie place ≡ head → edge.label.start + edge.label.len ≤ length trie
    by_head None none = absurd (none-some node (sym (met_headless trie place none) ∙ is))
    by_head (Some head) some = by_edges head (edges_at head.edge_count trie head.edges) some refl

-- of two labels that begin a name one begins with the other
both_begin : (name one other : List ℕ) → starts_with nat_eq name one ≡ true → starts_with nat_eq name other ≡ true → Clash one other
both_begin name one other is_one is_other = elim (cases_lt (length other) (length one)) [
  | inl less ↦ inl (shorter one other (omega (arith, less)) (begun name one is_one) (begun name other is_other))
  | inr most ↦ inr (shorter other one most (begun name other is_other) (begun name one is_one))
]
  where
    shorter : (long short : List ℕ) → length short ≤ length long → take (length long) name ≡ long → take (length short) name ≡ short → starts_with nat_eq long short ≡ true
    shorter long short less is_long is_short =
        begins long short (ap (take (length short)) (sym is_long) ∙ (take-take (length short) (length long) name less ∙ is_short))

swapped : (one other : List ℕ) → Clash one other → Clash other one
swapped one other (inl is) = inr is
swapped one other (inr is) = inl is

module _ (trie : List ℕ) where
  same_edge : (edges : List ExportEdge) → ¬ HasClash (map (label_of trie) edges) → (a b : ExportEdge) → Contains edges a → Contains edges b → Clash (label_of trie a) (label_of trie b) → a ≡ b
  same_edge [] none a b has_a has_b clash = absurd (none_in_nil a has_a)
  same_edge (first ∷ edges) none a b has_a has_b clash = elim (first_or_later first a edges has_a) [
    | inl same_a ↦ elim (first_or_later first b edges has_b) [
      | inl same_b ↦ sym same_a ∙ same_b
      | inr later_b ↦ absurd (with_first b later_b (subst (λ (e : ExportEdge). Clash (label_of trie e) (label_of trie b)) (sym same_a) clash))
    ]
    | inr later_a ↦ elim (first_or_later first b edges has_b) [
      | inl same_b ↦ absurd (with_first a later_a (swapped (label_of trie a) (label_of trie first) (subst (λ (e : ExportEdge). Clash (label_of trie a) (label_of trie e)) (sym same_b) clash)))
      | inr later_b ↦ same_edge edges (λ has. none (others has)) a b later_a later_b clash
    ]
  ]
    where
      with_first : (e : ExportEdge) → Contains edges e → ¬ Clash (label_of trie first) (label_of trie e)
      with_first e has both = none (inr (inl (any_of (Clash (label_of trie first)) (map (label_of trie) edges) (label_of trie e) (contains_mapped (label_of trie) edges e has) both)))

      others : HasClash (map (label_of trie) edges) → HasClash (map (label_of trie) (first ∷ edges))
      others (inl any) =
          let (label, has, empty) = one_of (λ (l : List ℕ). l ≡ []) (map (label_of trie) edges) any in
          inl (any_of (λ (l : List ℕ). l ≡ []) (map (label_of trie) (first ∷ edges)) label (contains_later (label_of trie first) label (map (label_of trie) edges) has) empty)
      others (inr two) = inr (inr two)

-- the first that passes is the only one
find_only : (test : ExportEdge → Bool) (edges : List ExportEdge) (edge : ExportEdge) → Contains edges edge → test edge ≡ true → ((e : ExportEdge) → Contains edges e → test e ≡ true → e ≡ edge)
    → find test edges ≡ Some edge
find_only test [] edge has passes only = absurd (none_in_nil edge has)
find_only test (first ∷ edges) edge has passes only = elim (cases_Bool (test first)) [
  | inl so ↦ ap (λ b. cond b (Some first) (find test edges)) so ∙ ap Some (only first (contains_first first edges) so)
  | inr not ↦ ap (λ b. cond b (Some first) (find test edges)) not ∙ elim (first_or_later first edge edges has) [
    | inl same ↦ absurd (true≢false (sym passes ∙ (ap test (sym same) ∙ not)))
    | inr later ↦ find_only test edges edge later passes (λ e among. only e (contains_later first e edges among))
  ]
]

-- A look-up finds what a path spells

abbrev places : List ExportEdge → List ℕ
places path = map (λ (edge : ExportEdge). edge.child) path

path_way : (trie : List ℕ) (path : List ExportEdge) (place end : ℕ) → IsPath trie place path end → IsWay trie place (places path)
path_way trie [] place end is = tt
path_way trie (edge ∷ path) place end (node, at, among, onward) = (node, at, contains_mapped (λ (e : ExportEdge). e.child) node.edges edge among, path_way trie path edge.child end onward)

-- What a look-up finds is listed

find_has : (test : ExportEdge → Bool) (edges : List ExportEdge) (edge : ExportEdge) → find test edges ≡ Some edge → Contains edges edge × (test edge ≡ true)
find_has test [] edge is = absurd (none-some edge is)
find_has test (first ∷ edges) edge is = elim (cases_Bool (test first)) [
  | inl so ↦
      let same : first ≡ edge = same_Some first edge (sym (ap (λ b. cond b (Some first) (find test edges)) so) ∙ is) in
      (subst (Contains (first ∷ edges)) same (contains_first first edges), subst (λ (e : ExportEdge). test e ≡ true) same so)
  | inr not ↦
      let (has, so) = find_has test edges edge (sym (ap (λ b. cond b (Some first) (find test edges)) not) ∙ is) in
      (contains_later first edge edges has, so)
]

and_both : (a b : Bool) → (a && b) ≡ true → (a ≡ true) × (b ≡ true)
and_both true b is = (refl, is)
and_both false b is = absurd (true≢false (sym is))

chosen_not : {X : Type 0} (b : Bool) (o : Option X) (x : X) → cond b None o ≡ Some x → o ≡ Some x
chosen_not true o x is = absurd (none-some x is)
chosen_not false o x is = is

abbrev IsListedFrom : List ℕ → ℕ → List ℕ → Span → Type 0
IsListedFrom trie place name terminal =
    (path : List ExportEdge) × (end : ℕ) × IsPath trie place path end × (spelled trie path ≡ name) × ((node : Node) × (node_at trie end ≡ Some node) × (0 < node.terminal.len) × (node.terminal ≡ terminal))

module _ (trie : List ℕ) where
  listed_from : (most left place : ℕ) (name : List ℕ) (terminal : Span) → terminal_from most trie left place name ≡ Some terminal → IsListedFrom trie place name terminal
  unfolding terminal_from
  listed_from zero left place name terminal is = absurd (none-some terminal is)
  listed_from (suc most) left place name terminal is =
      let (node, at, then) = then_some _ (node_at trie place) terminal is in
      let fits = chosen_not (nat_lt left (node.end - place)) _ terminal then in
      elim (cases_Bool (ends name node)) [
        | inl here ↦
            let (none, some) = and_both (length name == 0) (nat_lt 0 node.terminal.len) here in
            let same : node.terminal ≡ terminal = same_Some node.terminal terminal (sym (ap (λ b. cond b (Some node.terminal) (onward node)) here) ∙ fits) in
            ([], place, refl, sym (empty name (eqb-true (length name) 0 none)), (node, at, ltb-true 0 node.terminal.len some, same))
        | inr on ↦
            let (edge, found, rest) = then_some _ (find (begins_with trie name) node.edges) terminal (sym (ap (λ b. cond b (Some node.terminal) (onward node)) on) ∙ fits) in
            let (has, begin) = find_has (begins_with trie name) node.edges edge found in
            let (path, end, is_path, spells, last) = listed_from most (left - (node.end - place)) edge.child (drop edge.label.len name) terminal rest in
            let size : length (label_of trie edge) ≡ edge.label.len = length-part edge.label.start edge.label.len trie (node_edges_inside trie place node at edge has) in
            let first : label_of trie edge ≡ take edge.label.len name = sym (begun name (label_of trie edge) begin) ∙ ap (λ n. take n name) size in
            (edge ∷ path, end, (node, at, has, is_path), ap (λ (l : List ℕ). l ++ spelled trie path) first ∙ (ap (λ (l : List ℕ). take edge.label.len name ++ l) spells ∙ take-append-drop edge.label.len name), last)
      ]
    where
      onward : Node → Option Span
      onward node = option_and_then (λ (edge : ExportEdge). terminal_from most trie (left - (node.end - place)) edge.child (drop edge.label.len name)) (find (begins_with trie name) node.edges)

      empty : (xs : List ℕ) → length xs ≡ 0 → xs ≡ []
      empty [] none = refl
      empty (x ∷ xs) none = absurd (omega (arith, none))

  found_listed : (name : List ℕ) (terminal : Span) → IsFound trie name terminal → IsListed trie name terminal
  unfolding find_terminal
  found_listed name terminal is = listed_from (length trie) (length trie) 0 name terminal is

module _ (trie : List ℕ) (whole : AreWhole trie (met_nodes trie)) (clear : HaveNone (IsUnclear trie) (met_nodes trie)) where
  child_met : (place : ℕ) → IsAmong trie (met_nodes trie) place → (node : Node) → node_at trie place ≡ Some node → (edge : ExportEdge) → Contains node.edges edge → IsAmong trie (met_nodes trie) edge.child
  child_met place (met, among, is) node at edge has =
      children_met trie (length trie + 1) (length trie) (0 ∷ []) (omega arith) whole met among node (ap (node_at trie) is ∙ at) edge.child (contains_mapped (λ (e : ExportEdge). e.child) node.edges edge has)

  no_clash : (place : ℕ) → IsAmong trie (met_nodes trie) place → (node : Node) → node_at trie place ≡ Some node → ¬ HasClash (labels_of trie node)
  no_clash place (met, among, is) node at has =
      let here : node_at trie met.place ≡ Some node = ap (node_at trie) is ∙ at in
      elim (cases_lt met.left (node.end - met.place)) [
        | inl past ↦ whole.1 met among (of_some (λ n. met.left < n.end - met.place) (node_at trie met.place) node here past)
        | inr fits ↦ clear met among (of_some (λ n. (n.end - met.place ≤ met.left) × HasClash (labels_of trie n)) (node_at trie met.place) node here (fits, has))
      ]

  found_along : (path : List ExportEdge) (most left place end : ℕ) (last : Node) → IsPath trie place path end → IsAmong trie (met_nodes trie) place → node_at trie end ≡ Some last → 0 < last.terminal.len
      → way_bytes trie (place ∷ places path) ≤ left → way_bytes trie (place ∷ places path) ≤ most → terminal_from most trie left place (spelled trie path) ≡ Some last.terminal
  found_along [] zero left place end last is met at_end some fits enough =
      let at : node_at trie place ≡ Some last = ap (node_at trie) is ∙ at_end in
      let bytes = bytes_at trie place last at in
      let some_bytes = node_begins trie place last at in
      absurd (omega (arith, bytes, some_bytes, enough))
  found_along [] (suc m) left place end last is met at_end some fits enough =
      let at : node_at trie place ≡ Some last = ap (node_at trie) is ∙ at_end in
      let bytes = bytes_at trie place last at in
      look_on trie m left place [] last at (omega (arith, bytes, fits)) ∙ rw (lt-ltb 0 last.terminal.len some) refl
  found_along (edge ∷ path) zero left place end last (node, at, among, onward) met at_end some fits enough =
      let bytes = bytes_at trie place node at in
      let some_bytes = node_begins trie place node at in
      absurd (omega (arith, bytes, some_bytes, enough))
  found_along (edge ∷ path) (suc m) left place end last (node, at, among, onward) met at_end some fits enough =
      let bytes = bytes_at trie place node at in
      let some_bytes = node_begins trie place node at in
      let none = no_clash place met node at in
      let label = label_of trie edge in
      let rest = spelled trie path in
      let name = label ++ rest in
      let size : length label ≡ edge.label.len = length-part edge.label.start edge.label.len trie (node_edges_inside trie place node at edge among) in
      let letters : 0 < length label = not_empty label (λ empty. none (inl (any_of (λ (l : List ℕ). l ≡ []) (labels_of trie node) label (contains_mapped (label_of trie) node.edges edge among) empty))) in
      let more = length-append label rest in
      let goes_on : ends name node ≡ false = ap (λ b. b && nat_lt 0 node.terminal.len) (ne_eqb (length name) 0 (λ empty. omega (arith, more, letters, empty))) in
      let this : begins_with trie name edge ≡ true = begins name label (take_at label rest (length label) refl) in
      let picks : find (begins_with trie name) node.edges ≡ Some edge =
      find_only (begins_with trie name) node.edges edge among this (λ e has passes. same_edge trie node.edges none e edge has among (both_begin name (label_of trie e) label passes this)) in
      let left_then = left - (node.end - place) in
      look_on trie m left place name node at (omega (arith, bytes, fits))
      ∙ (ap (λ b. cond b (Some node.terminal) (option_and_then (leads_on trie m left_then name) (find (begins_with trie name) node.edges))) goes_on
      ∙ (ap (option_and_then (leads_on trie m left_then name)) picks
      ∙ (ap (terminal_from m trie left_then edge.child) (drop_at label rest edge.label.len size)
      ∙ found_along path m left_then edge.child end last onward (child_met place met node at edge among) at_end some (omega (arith, bytes, fits)) (omega (arith, bytes, some_bytes, enough)))))
    where
      not_empty : (xs : List ℕ) → xs ≢ [] → 0 < length xs
      not_empty [] some = absurd (some refl)
      not_empty (x ∷ xs) some = omega arith

  listed_found : (name : List ℕ) (terminal : Span) → IsListed trie name terminal → IsFound trie name terminal
  unfolding find_terminal
  listed_found name terminal (path, end, is, spells, (last, at, some, same)) =
      let fits = short_ways trie whole (places path) (path_way trie path 0 end is) in
      let root : IsAmong trie (met_nodes trie) 0 = waiting_met trie (length trie + 1) (length trie) (0 ∷ []) (omega arith) whole 0 (contains_first 0 []) in
      subst (λ (n : List ℕ). terminal_from (length trie) trie (length trie) 0 n ≡ Some terminal) spells
      (found_along path (length trie) (length trie) 0 end last is root at some fits fits ∙ ap Some same)

  pub one_export_in : HasOneExport trie
  one_export_in = record {
    one = λ name a b is_a is_b. same_Some a b (sym (either name a is_a) ∙ either name b is_b);
    same = λ name terminal. (listed_found name terminal, found_listed trie name terminal);
  }
    where
      either : (name : List ℕ) (terminal : Span) → IsExportOf trie name terminal → find_terminal trie name ≡ Some terminal
      either name terminal (inl listed) = listed_found name terminal listed
      either name terminal (inr found) = found

module _ (image : List ℕ) (nodes : (place : ℕ) → ¬ BreaksExportNode image place) (totals : (place : ℕ) → ¬ BreaksExportTotal image place) (edges : (place : ℕ) → ¬ BreaksExportEdge image place) where
  module _ (table : Span) (is : export_table image ≡ Some table) where
    abbrev trie : List ℕ
    trie = part table.start table.len image

    none_met : (place_of : Met → ℕ) (P : Met → Type 0) (Rule : List ℕ → List ℕ → ℕ → Type 0) → Rule image trie ≡ AtMet place_of P (met_nodes trie) → ((place : ℕ) → ¬ InExports image Rule place) → HaveNone P (met_nodes trie)
    none_met place_of P Rule same none met among has =
        none (table.start + place_of met)
        (of_some (λ t. (offset : ℕ) × (table.start + place_of met ≡ t.start + offset) × Rule image (part t.start t.len image) offset) (export_table image) table is
        (place_of met, refl, subst (λ (R : ℕ → Type 0). R (place_of met)) (sym same) (met, among, refl, has)))

    pub whole : AreWhole trie (met_nodes trie)
    whole = (none_met _ (HasNoEnd trie) EndlessNode refl nodes, none_met _ (PassesTable trie) TooManyBytes refl totals)

    clear : HaveNone (IsUnclear trie) (met_nodes trie)
    clear = none_met _ (IsUnclear trie) (λ _. UnclearNode) refl edges

  pub one_export : HasOneExportOfName image
  one_export table is = one_export_in (trie table is) (whole table is) (clear table is)
