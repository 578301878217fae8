-- The walk over the export trie beside sorted names: which names wait, and the least place so far.
use Rattle.std.proofs.Common.{◌≡◌, ◌∙◌, ◌⊎◌, ℕ, zero, suc, ◌+◌, ◌-◌, ◌≤◌, ◌<◌, List, [], ◌∷◌, ◌++◌, length, map, take, drop, Contains, Option, Some, None, refl, sym, ap, subst, arith, inl, inr, length-drop}
use Rattle.std.specs.Prelude.{IsSomeAnd, IfSome, min}
use Rattle.std.proofs.Math.Seq.{take-add}
use Rattle.std.proofs.lemmas.Bool.{le-ltb}
use Rattle.std.proofs.lemmas.List.{append-nil, append_assoc, map-append, take_at, drop_at, take_all, length-take, drop-drop}
use Rattle.std.proofs.lemmas.List.Elements.{Contains-append_left, Contains-append_right, Contains-append_cases}
use Rattle.std.proofs.lemmas.Option.{same_Some, none-some}
use Rattle.macho_fields.proofs.Lists.{contains_first, contains_later, first_or_later, none_in_nil}
use Rattle.macho_fields.proofs.Options.{some_of, of_some}
use Rattle.macho_fields.specs.FirstPlace.{IsLeastPlace}
use Rattle.macho_image.proofs.ReadParts.{length-part}
use Rattle.macho_tables.specs.Places.{lesser}
use Rattle.macho_exports.specs.ExportTrie.{Node, node_at, head_at}
use Rattle.macho_exports.specs.ExportWalk.{Met, walk, children, PassesTable}
use Rattle.macho_exports.specs.declared.export_trie.ExportEdge.{ExportEdge}
use Rattle.macho_exports.specs.declared.export_trie.ExportNode.{ExportNode}
use Rattle.macho_exports.proofs.ExportLaws.{AreWhole, node_begins, whole_step}
use Rattle.macho_exports.proofs.ExportNodes.{met_headless, met_edgeless, met_node}
use Rattle.macho_alike.proofs.ExportPaths.{node_edges_inside}
use Rattle.macho_alike.proofs.TrieOrders.{upto_drop, part_itself, part_later, part_after, part_before}
use Rattle.macho_alike.specs.Exports.{label_of}
use Rattle.macho_alike.specs.ExportModels.{IsPath, spelled}
use Rattle.macho_alike.specs.TrieWalks.{IsWhole, named_at, text_at, AreSorted, rest_at, IsOfBranch, AreOfBranch, GoesOn, IsPart, AreBranches, AreBranchesOf, image_export, IsUnlikeExport, EndsUnlike, EndsUnlikeTerminal, LeadsToUnlike, IsUnlikeAt}
use Rattle.macho_alike.specs.declared.names.Named.{Named}
use Rattle.macho_alike.specs.declared.trie.Branch.{Branch}

-- Where the nodes of a walk end, and have no more bytes than are left, so does a walk from some of the places

module _ (trie : List ℕ) where
  abbrev pub IsWholeFrom : ℕ → List ℕ → Type 0
  IsWholeFrom left waiting =
      (some : ℕ) × (some ≤ left) × ((most : ℕ) → some < most → AreWhole trie (walk most trie some waiting))

  none_waits : (most left : ℕ) → AreWhole trie (walk most trie left [])
  none_waits zero left = (λ met among. absurd (none_in_nil met among), λ met among. absurd (none_in_nil met among))
  none_waits (suc most) left = (λ met among. absurd (none_in_nil met among), λ met among. absurd (none_in_nil met among))

  -- a node before a walk
  whole_more : (most left place : ℕ) (waiting : List ℕ) (node : Node) → node_at trie place ≡ Some node
      → AreWhole trie (walk most trie left (children node ++ waiting)) → AreWhole trie (walk (suc most) trie (left + (node.end - place)) (place ∷ waiting))
  whole_more most left place waiting node at (ended, kept) =
      subst (AreWhole trie) (sym is) (
        λ met among none. elim (first_or_later here met rest among) [
          | inl same ↦ none-some node (sym none ∙ (ap (λ (m : Met). node_at trie m.place) (sym same) ∙ at))
          | inr later ↦ ended met later none
        ],
        λ met among past. elim (first_or_later here met rest among) [
          | inl same ↦
              let (other, there, less) = some_of (λ n. here.left < n.end - here.place) (node_at trie place) (subst (PassesTable trie) (sym same) past) in
              let one : other ≡ node = same_Some other node (sym there ∙ at) in
              let few : left + (node.end - place) < node.end - place = subst (λ (n : Node). left + (node.end - place) < n.end - place) one less in
              omega (arith, few)
          | inr later ↦ kept met later past
        ],
      )
    where
      size : ℕ
      size = node.end - place

      here : Met
      here = record { place = place; left = left + size }

      rest : List Met
      rest = walk most trie left (children node ++ waiting)

      left_is : (left + size) - size ≡ left
      left_is = omega arith

      is : walk (suc most) trie (left + size) (place ∷ waiting) ≡ here ∷ rest
      is = rw (at, le-ltb (left + size) size (omega arith)) (ap (λ (l : ℕ). here ∷ walk most trie l (children node ++ waiting)) left_is)

  with_node : (next : ℕ) (node : Node) → node_at trie next ≡ Some node → next < node.end → (left place : ℕ) (some : List ℕ) → next ≡ place
      → ((most : ℕ) → left < most → AreWhole trie (walk most trie left (children node ++ some)))
      → (most : ℕ) → left + (node.end - next) < most → AreWhole trie (walk most trie (left + (node.end - next)) (place ∷ some))
  with_node next node at begins left place some same all zero more = absurd (omega (arith, more))
  with_node next node at begins left place some same all (suc most) more =
      subst (λ (p : ℕ). AreWhole trie (walk (suc most) trie (left + (node.end - next)) (p ∷ some))) same
      (whole_more most left next some node at (all most (omega (arith, begins, more))))

  pub whole_part : (bound most left : ℕ) (some waiting : List ℕ) → left < most → left ≤ bound → IsPart some waiting
      → AreWhole trie (walk most trie left waiting) → IsWholeFrom left some
  whole_part bound most left [] waiting enough few is whole = (left, omega arith, λ n more. none_waits n left)
  whole_part bound most left (place ∷ some) [] enough few is whole = absurd is
  whole_part bound zero left (place ∷ some) (next ∷ waiting) enough few is whole = absurd (omega (arith, enough))
  whole_part zero (suc most) left (place ∷ some) (next ∷ waiting) enough few is whole =
      let (node, at, fits, rest) = whole_step trie most left next waiting whole in
      let begins = node_begins trie next node at in absurd (omega (arith, begins, fits, few))
  whole_part (suc bound) (suc most) left (place ∷ some) (next ∷ waiting) enough few is whole =
      let (node, at, fits, rest) = whole_step trie most left next waiting whole in
      let begins = node_begins trie next node at in
      elim is [
        | inl (same, later) ↦
            let (l, less, then) = whole_part bound most (left - (node.end - next)) (children node ++ some) (children node ++ waiting)
            (omega (arith, begins, fits, enough)) (omega (arith, begins, fits, few)) (part_after (children node) some waiting later) rest in
            (l + (node.end - next), omega (arith, less, fits), with_node next node at begins l place some (sym same) then)
        | inr later ↦
            let (l, less, then) = whole_part bound most (left - (node.end - next)) (place ∷ some) (children node ++ waiting)
            (omega (arith, begins, fits, enough)) (omega (arith, begins, fits, few)) (part_later (place ∷ some) (children node) waiting later) rest in
            (l, omega (arith, less), then)
      ]

-- Paths

module _ (trie : List ℕ) where
  path_more : (path : List ExportEdge) (from end : ℕ) (node : Node) (edge : ExportEdge) → IsPath trie from path end → node_at trie end ≡ Some node → Contains node.edges edge
      → IsPath trie from (path ++ edge ∷ []) edge.child
  path_more [] from end node edge is at has = (node, ap (node_at trie) is ∙ at, has, refl)
  path_more (first ∷ path) from end node edge (there, at_there, among, onward) at has =
      (there, at_there, among, path_more path first.child end node edge onward at has)

  spelled_more : (path : List ExportEdge) (edge : ExportEdge) → spelled trie (path ++ edge ∷ []) ≡ spelled trie path ++ label_of trie edge
  spelled_more [] edge = append-nil (label_of trie edge)
  spelled_more (first ∷ path) edge =
      ap (λ (l : List ℕ). label_of trie first ++ l) (spelled_more path edge) ∙ sym (append_assoc (label_of trie first) (spelled trie path) (label_of trie edge))

-- The lesser of two places

lesser_left : (one other : Option ℕ) (place : ℕ) → IsSomeAnd one (λ q. q ≤ place) → IsSomeAnd (lesser one other) (λ q. q ≤ place)
lesser_left None other place is = absurd is
lesser_left (Some one) None place is = is
lesser_left (Some one) (Some other) place is = omega (arith, is)

lesser_right : (one other : Option ℕ) (place : ℕ) → IsSomeAnd other (λ q. q ≤ place) → IsSomeAnd (lesser one other) (λ q. q ≤ place)
lesser_right None other place is = is
lesser_right (Some one) None place is = absurd is
lesser_right (Some one) (Some other) place is = omega (arith, is)

lesser_either : (P : ℕ → Type 0) (one other : Option ℕ) → IfSome one P → IfSome other P → IfSome (lesser one other) P
lesser_either P None other is is_other = is_other
lesser_either P (Some one) None is is_other = is
lesser_either P (Some one) (Some other) is is_other = by_min (min one other) refl
  where
    either : (m : ℕ) → m ≡ min one other → (m ≡ one) ⊎ (m ≡ other)
    either m is = grind (arith, is)

    by_min : (m : ℕ) → m ≡ min one other → P (min one other)
    by_min m at = elim (either m at) [
      | inl same ↦ subst P (sym same ∙ at) is
      | inr same ↦ subst P (sym same ∙ at) is_other
    ]

least_has : (P : ℕ → Type 0) (found : Option ℕ) → IsLeastPlace P found → IfSome found P
least_has P None least = tt
least_has P (Some q) (has, low) = has

least_upto : (P : ℕ → Type 0) (found : Option ℕ) (place : ℕ) → IsLeastPlace P found → P place → IsSomeAnd found (λ q. q ≤ place)
least_upto P None place none has = absurd (none place has)
least_upto P (Some q) place (is, low) has = low place has

-- an item of no bytes after so many
drop_none : (n : ℕ) (xs : List ℕ) → n ≤ length xs → [] ≡ drop n xs → length xs ≡ n
drop_none n xs long none =
    let rest = length-drop n xs in
    let zero_left : 0 ≡ length (drop n xs) = ap length none in
    omega (arith, rest, zero_left, long)

-- The walk

-- one path leads to the node of a branch, and spells what its names begin with
pub record IsReached (image trie : List ℕ) (names : List Named) (branch : Branch) : Type 0 where
  pub path : List ExportEdge
  pub is : IsPath trie 0 path branch.place
  pub inside : branch.end ≤ length names
  pub ordered : branch.first ≤ branch.end
  pub spells : (k : ℕ) → branch.first ≤ k → k < branch.end
      → (branch.depth ≤ length (text_at image names k)) × (take branch.depth (text_at image names k) ≡ spelled trie path)

-- a branch has the name, and it leads on from there
abbrev pub IsAwaited : List ℕ → List ℕ → List Named → Option ℕ → List Branch → ℕ → Type 0
IsAwaited image trie names base waiting k =
    (branch : Branch) × Contains waiting branch × IsOfBranch branch k
    × LeadsToUnlike image trie base branch.place (rest_at image names branch k) (named_at names k).place

-- These branches wait. Each name that leads to what is looked for is noted, or one of them has it.
pub record IsWalkedTo (image trie : List ℕ) (names : List Named) (base : Option ℕ) (left : ℕ) (waiting : List Branch) (least : Option ℕ) : Type 0 where
  pub whole : IsWholeFrom trie left (map (λ (branch : Branch). branch.place) waiting)
  pub reached : (branch : Branch) → Contains waiting branch → IsReached image trie names branch
  pub sound : IfSome least (IsUnlikeAt image trie names base)
  pub rest : (k : ℕ) → k < length names → LeadsToUnlike image trie base 0 (text_at image names k) (named_at names k).place
      → IsSomeAnd least (λ q. q ≤ (named_at names k).place) ⊎ IsAwaited image trie names base waiting k

module _ (image trie : List ℕ) (names : List Named) (base : Option ℕ) (sorted : AreSorted image names) where
  abbrev text : ℕ → List ℕ
  text k = text_at image names k

  abbrev place_of : ℕ → ℕ
  place_of k = (named_at names k).place

  -- how long a name is
  text_length : (k : ℕ) → k < length names → length (text k) ≡ (named_at names k).name.len
  text_length k less = length-part (named_at names k).name.start (named_at names k).name.len image (sorted.spans k less)

  abbrev pub root : Branch
  root = record { place = 0; depth = 0; first = 0; end = length names }

  pub walked_start : IsWhole trie → IsWalkedTo image trie names base (length trie) (root ∷ []) None
  walked_start whole = record {
    whole = whole_part trie (length trie) (length trie + 1) (length trie) (0 ∷ []) (0 ∷ []) (omega arith) (omega arith) (part_itself (0 ∷ [])) whole;
    reached = λ branch has. elim (first_or_later root branch [] has) [
      | inl same ↦ subst (IsReached image trie names) same at_root
      | inr later ↦ absurd (none_in_nil branch later)
    ];
    sound = tt;
    rest = λ k less leads. inr (root, contains_first root [], (omega arith, less), leads);
  }
    where
      at_root : IsReached image trie names root
      at_root = record {
        path = [];
        is = refl;
        inside = omega arith;
        ordered = omega arith;
        spells = λ k low less. (omega arith, refl);
      }

  pub walked_all : (left : ℕ) (least : Option ℕ) → IsWalkedTo image trie names base left [] least → IsLeastPlace (IsUnlikeAt image trie names base) least
  walked_all left least are = by_least least are.sound noted
    where
      noted : (place : ℕ) → IsUnlikeAt image trie names base place → IsSomeAnd least (λ q. q ≤ place)
      noted place (k, less, at, leads) = elim (are.rest k less (subst (LeadsToUnlike image trie base 0 (text k)) (sym at) leads)) [
        | inl is ↦ subst (λ (p : ℕ). IsSomeAnd least (λ q. q ≤ p)) at is
        | inr (branch, has, of, on) ↦ absurd (none_in_nil branch has)
      ]

      by_least : (found : Option ℕ) → IfSome found (IsUnlikeAt image trie names base) → ((place : ℕ) → IsUnlikeAt image trie names base place → IsSomeAnd found (λ q. q ≤ place))
          → IsLeastPlace (IsUnlikeAt image trie names base) found
      by_least None sound upto = λ place has. upto place has
      by_least (Some q) sound upto = (sound, upto)

  module _ (branch : Branch) (at_branch : IsReached image trie names branch) where
    -- the names of the branch are as its search wants them
    pub of_branch : AreOfBranch image names branch
    of_branch = record {
      inside = at_branch.inside;
      ordered = at_branch.ordered;
      deep = λ k low less. subst (λ (n : ℕ). branch.depth ≤ n) (text_length k (within k less)) (at_branch.spells k low less).0;
      rising = λ i j low upto less.
          let inside = within j less in
          let less_i : i < branch.end = omega (arith, upto, less) in
          let low_j : branch.first ≤ j = omega (arith, low, upto) in
          let (deep_i, is_i) = at_branch.spells i low less_i in
          let (deep_j, is_j) = at_branch.spells j low_j less in
          upto_drop branch.depth (text i) (text j) deep_i deep_j (is_i ∙ sym is_j) (sorted.rising i j upto inside);
    }
      where
        within : (k : ℕ) → k < branch.end → k < length names
        within k less = let most = at_branch.inside in omega (arith, less, most)

  module _ (branch : Branch) (others : List Branch) (left : ℕ) (least : Option ℕ) (are : IsWalkedTo image trie names base left (branch ∷ others) least) where
    abbrev here_places : List ℕ
    here_places = map (λ (b : Branch). b.place) others

    here_reached : IsReached image trie names branch
    here_reached = are.reached branch (contains_first branch others)

    pub next_of_branch : AreOfBranch image names branch
    next_of_branch = of_branch branch here_reached

    -- the node of the next branch is there, and what follows it
    next_step : (node : Node) × (node_at trie branch.place ≡ Some node) × (node.end - branch.place ≤ left)
        × ((some : ℕ) × (some ≤ left) × (node.end - branch.place ≤ some) × (branch.place < node.end)
        × AreWhole trie (walk some trie (some - (node.end - branch.place)) (children node ++ here_places)))
    next_step =
        let (some, less, all) = are.whole in
        let (node, at, fits, rest) = whole_step trie some some branch.place here_places (all (suc some) (omega arith)) in
        (node, at, omega (arith, fits, less), (some, less, fits, node_begins trie branch.place node at, rest))

    pub next_node : (node : Node) × (node_at trie branch.place ≡ Some node) × (node.end - branch.place ≤ left)
    next_node = let (node, at, fits, _) = next_step in (node, at, fits)

    module _ (node : Node) (at : node_at trie branch.place ≡ Some node) (branches : List Branch) (along : AreBranches image trie names branch node.edges branches)
        (here : Option ℕ) (is_here : IsLeastPlace (EndsUnlikeTerminal image trie names branch base node.terminal) here) where
      label_size : (edge : ExportEdge) → Contains node.edges edge → length (label_of trie edge) ≡ edge.label.len
      label_size edge has = length-part edge.label.start edge.label.len trie (node_edges_inside trie branch.place node at edge has)

      -- the branches are reached
      next_reached : (next : Branch) → Contains branches next → IsReached image trie names next
      next_reached next has =
          let (edge, among, goes) = along.along next has in
          let path = here_reached.path in
          let label = label_of trie edge in
          record {
            path = path ++ edge ∷ [];
            is = subst (IsPath trie 0 (path ++ edge ∷ [])) (sym goes.place) (path_more trie path 0 branch.place node edge here_reached.is at among);
            inside = let high = goes.high in let most = here_reached.inside in omega (arith, high, most);
            ordered = let some = goes.some in omega (arith, some);
            spells = λ k low less.
                let from = goes.low in
                let to = goes.high in
                let (deep, is) = here_reached.spells k (omega (arith, from, low)) (omega (arith, to, less)) in
                let goes_on = goes.goes_on k low less in
                let size = label_size edge among in
                let cut : length (take edge.label.len (rest_at image names branch k)) ≡ edge.label.len = ap length goes_on ∙ size in
                let few = length-take edge.label.len (rest_at image names branch k) in
                let left_over = length-drop branch.depth (text k) in
                let depth = goes.depth in (
                  omega (arith, deep, cut, few, left_over, depth),
                  ap (λ (n : ℕ). take n (text k)) depth
                      ∙ (take-add branch.depth edge.label.len (text k)
                      ∙ (ap (λ (l : List ℕ). l ++ take edge.label.len (rest_at image names branch k)) is
                      ∙ (ap (λ (l : List ℕ). spelled trie path ++ l) goes_on ∙ sym (spelled_more trie path edge)))),
                );
          }

      -- what ends here leads here from the root
      ending_sound : (place : ℕ) → EndsUnlikeTerminal image trie names branch base node.terminal place → IsUnlikeAt image trie names base place
      ending_sound place has =
          let (export, there, (k, (low, less), size, at_place, unlike)) = some_of (λ e. EndsUnlike image names branch base e place) (image_export trie node.terminal) has in
          let most = here_reached.inside in
          let inside : k < length names = omega (arith, less, most) in
          let (deep, is) = here_reached.spells k low less in
          let all : take branch.depth (text k) ≡ text k = take_all branch.depth (text k) (let long = text_length k inside in omega (arith, long, size)) in (
            k,
            inside,
            at_place,
            (here_reached.path, branch.place, here_reached.is, sym is ∙ all, (node, at, of_some (λ e. IsUnlikeExport image base e place) (image_export trie node.terminal) export there unlike)),
          )

      -- a name that ends here
      ends_here : (k : ℕ) → IsOfBranch branch k → [] ≡ rest_at image names branch k → (last : Node) → node_at trie branch.place ≡ Some last
          → IsSomeAnd (image_export trie last.terminal) (λ e. IsUnlikeExport image base e (place_of k)) → IsSomeAnd here (λ q. q ≤ place_of k)
      ends_here k (low, less) none last at_last unlike =
          let most = here_reached.inside in
          let inside : k < length names = omega (arith, less, most) in
          let (deep, is) = here_reached.spells k low less in
          let size : (named_at names k).name.len ≡ branch.depth = sym (text_length k inside) ∙ drop_none branch.depth (text k) deep none in
          let same : last ≡ node = same_Some last node (sym at_last ∙ at) in
          let (export, there, so) = some_of (λ e. IsUnlikeExport image base e (place_of k)) (image_export trie node.terminal) (subst (λ (n : Node). IsSomeAnd (image_export trie n.terminal) (λ e. IsUnlikeExport image base e (place_of k))) same unlike) in
          least_upto (EndsUnlikeTerminal image trie names branch base node.terminal) here (place_of k) is_here
          (of_some (λ e. EndsUnlike image names branch base e (place_of k)) (image_export trie node.terminal) export there (k, (low, less), size, refl, so))

      -- a name that goes on
      goes_along : (k : ℕ) → IsOfBranch branch k → (edge : ExportEdge) → Contains node.edges edge → (path : List ExportEdge) (end : ℕ) → IsPath trie edge.child path end
          → label_of trie edge ++ spelled trie path ≡ rest_at image names branch k
          → ((last : Node) × (node_at trie end ≡ Some last) × IsSomeAnd (image_export trie last.terminal) (λ e. IsUnlikeExport image base e (place_of k)))
          → IsAwaited image trie names base (branches ++ others) k
      goes_along k of edge among path end is spells last =
          let size = label_size edge among in
          let goes_on : GoesOn image trie names branch edge k = ap (take edge.label.len) (sym spells) ∙ take_at (label_of trie edge) (spelled trie path) edge.label.len size in
          let (next, has, goes, of_next) = along.all edge among k of goes_on in
          let rest : spelled trie path ≡ rest_at image names next k =
          sym (drop_at (label_of trie edge) (spelled trie path) edge.label.len size)
          ∙ (ap (drop edge.label.len) spells
          ∙ (drop-drop edge.label.len branch.depth (text k) ∙ ap (λ (n : ℕ). drop n (text k)) (sym goes.depth))) in
          (next, Contains-append_left branches others next has, of_next, (path, end, subst (λ (p : ℕ). IsPath trie p path end) (sym goes.place) is, rest, last))

      awaited : (k : ℕ) → IsOfBranch branch k → LeadsToUnlike image trie base branch.place (rest_at image names branch k) (place_of k)
          → IsSomeAnd (lesser least here) (λ q. q ≤ place_of k) ⊎ IsAwaited image trie names base (branches ++ others) k
      awaited k of ([], end, is, spells, (last, at_last, unlike)) =
          inl (lesser_right least here (place_of k) (ends_here k of spells last (ap (node_at trie) is ∙ at_last) unlike))
      awaited k of (edge ∷ path, end, (there, at_there, among, onward), spells, last) =
          let same : there ≡ node = same_Some there node (sym at_there ∙ at) in
          inr (goes_along k of edge (subst (λ (n : Node). Contains n.edges edge) same among) path end onward spells last)

      pub walked_more : IsWalkedTo image trie names base (left - (node.end - branch.place)) (branches ++ others) (lesser least here)
      walked_more = record {
        whole = whole_next next_step;
        reached = λ next has. elim (Contains-append_cases branches others next has) [
          | inl new ↦ next_reached next new
          | inr old ↦ are.reached next (contains_later branch next others old)
        ];
        sound = lesser_either (IsUnlikeAt image trie names base) least here are.sound (sound_here here (least_has (EndsUnlikeTerminal image trie names branch base node.terminal) here is_here));
        rest = λ k less leads. elim (are.rest k less leads) [
          | inl noted ↦ inl (lesser_left least here (place_of k) noted)
          | inr (one, has, of, on) ↦ elim (first_or_later branch one others has) [
            | inl same ↦ awaited k (subst (λ (b : Branch). IsOfBranch b k) (sym same) of) (subst (λ (b : Branch). LeadsToUnlike image trie base b.place (rest_at image names b k) (place_of k)) (sym same) on)
            | inr later ↦ inr (one, Contains-append_right branches others one later, of, on)
          ]
        ];
      }
        where
          sound_here : (found : Option ℕ) → IfSome found (EndsUnlikeTerminal image trie names branch base node.terminal) → IfSome found (IsUnlikeAt image trie names base)
          sound_here None is = tt
          sound_here (Some q) is = ending_sound q is

          places : List Branch → List ℕ
          places bs = map (λ (b : Branch). b.place) bs

          whole_next : ((other : Node) × (node_at trie branch.place ≡ Some other) × (other.end - branch.place ≤ left)
              × ((some : ℕ) × (some ≤ left) × (other.end - branch.place ≤ some) × (branch.place < other.end)
              × AreWhole trie (walk some trie (some - (other.end - branch.place)) (children other ++ here_places))))
              → IsWholeFrom trie (left - (node.end - branch.place)) (places (branches ++ others))
          whole_next (other, at_other, fits, (some, less, has, begins, rest)) =
              let same : other ≡ node = same_Some other node (sym at_other ∙ at) in
              let whole = subst (λ (n : Node). AreWhole trie (walk some trie (some - (n.end - branch.place)) (children n ++ here_places))) same rest in
              let begins_now : branch.place < node.end = subst (λ (n : Node). branch.place < n.end) same begins in
              let has_now : node.end - branch.place ≤ some = subst (λ (n : Node). n.end - branch.place ≤ some) same has in
              let (l, few, then) = whole_part trie (some - (node.end - branch.place)) some (some - (node.end - branch.place)) (places branches ++ here_places) (children node ++ here_places)
              (omega (arith, begins_now, has_now)) (omega arith) (part_before (places branches) (children node) here_places along.places) whole in
              let joined : places branches ++ here_places ≡ places (branches ++ others) = sym (map-append (λ (b : Branch). b.place) branches others) in
              (l, omega (arith, few, less), λ most more. subst (λ (w : List ℕ). AreWhole trie (walk most trie l w)) joined (then most more))

    -- As the code has it

    abbrev node_of : ExportNode → List ExportEdge × ℕ → Node
    node_of head edges = record { terminal = head.terminal; edges = edges.0; end = edges.1 }

    pub next_head : ¬ (head_at trie branch.place ≡ None)
    next_head none = let (node, at, fits) = next_node in none-some node (sym (met_headless trie branch.place none) ∙ at)

    module _ (head : ExportNode) (is : head_at trie branch.place ≡ Some head) (branches : List Branch) where
      pub next_edges : ¬ AreBranchesOf image trie names branch head branches None
      next_edges none = let (node, at, fits) = next_node in none-some node (sym (met_edgeless trie branch.place head is none) ∙ at)

      module _ (end : ℕ) (read : AreBranchesOf image trie names branch head branches (Some end)) where
        there : (node : Node) × (node_at trie branch.place ≡ Some node) × (node.terminal ≡ head.terminal) × (node.end ≡ end)
            × AreBranches image trie names branch node.edges branches
        there = let (edges, at, are_branches) = read in (node_of head (edges, end), met_node trie branch.place head edges end is at, refl, refl, are_branches)

        -- it has some bytes, and no more than are left
        pub next_fits : (branch.place < end) × (end - branch.place ≤ left)
        next_fits =
            let (node, at, terminal, ends, are_branches) = there in
            let (other, at_other, fits) = next_node in
            let same : other ≡ node = same_Some other node (sym at_other ∙ at) in
            let begins = node_begins trie branch.place node at in
            let few : node.end - branch.place ≤ left = subst (λ (n : Node). n.end - branch.place ≤ left) same fits in
            (omega (arith, begins, ends), omega (arith, few, ends))

        pub next_walked : (here : Option ℕ) → IsLeastPlace (EndsUnlikeTerminal image trie names branch base head.terminal) here → (rest : ℕ) → rest ≡ left - (end - branch.place)
            → IsWalkedTo image trie names base rest (branches ++ others) (lesser least here)
        next_walked here is_here rest is_rest =
            let (edges, at, are_branches) = read in
            subst (λ (n : ℕ). IsWalkedTo image trie names base n (branches ++ others) (lesser least here)) (sym is_rest)
            (walked_more (node_of head (edges, end)) (met_node trie branch.place head edges end is at) branches are_branches here is_here)
