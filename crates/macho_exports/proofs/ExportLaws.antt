-- What the export trie of an image promises that breaks none of its rules.
use Rattle.std.proofs.Common.{◌≡◌, ◌∙◌, ℕ, zero, suc, ◌+◌, ◌-◌, ◌^◌, ◌≤◌, ◌<◌, ◌⊎◌, List, [], ◌∷◌, ◌++◌, length, map, drop, Contains, Bool, cond, Option, Some, None, refl, sym, ap, subst, arith, inl, inr}
use Rattle.std.specs.Prelude.{find, Any, IsSomeAnd, IfSome}
use Rattle.std.specs.Option.{option_and_then, option_map_or}
use Rattle.std.proofs.lemmas.Bool.{cases_lt, cases_Bool, le-ltb}
use Rattle.std.proofs.lemmas.List.{append_assoc, map-append}
use Rattle.std.proofs.lemmas.Option.{same_Some, none-some}
use Rattle.macho_fields.proofs.Lists.{any_nil, contains_first, contains_later, first_or_later, any_of}
use Rattle.macho_fields.proofs.Options.{of_some}
use Rattle.macho_fields.specs.Field.{part}
use Rattle.macho_fields.specs.Image.{commands_of}
use Rattle.macho_fields.specs.Segment.{all_segments, base_of, vmaddr, vmsize, Supplies}
use Rattle.macho_spans.specs.declared.span.Span.{Span}
use Rattle.macho_exports.specs.ExportLaw.{IsThere, IsSoundTerminal, AreSoundNodes, IsWay, node_bytes, way_bytes, AreShortWays, IsNeverCut, AreSoundExports}
use Rattle.macho_exports.specs.ExportTrie.{Node, node_at, head_at, edges_at, begins_with, ends, terminal_from, find_terminal}
use Rattle.macho_exports.specs.ExportWalk.{Met, walk, met_nodes, children, AtMet, HasNoEnd, PassesTable, HasTerminal, IsBadTerminal, HasExport, whole_export}
use Rattle.macho_exports.specs.Exports.{IsOfNoLibrary, LeadsNowhere, EndlessNode, TooManyBytes, BadTerminal, UnknownLibrary, UnknownAddress, is_absolute, export_table, HasNoLibrary, HasNoAddress, InExports, BreaksExportNode, BreaksExportTotal, BreaksExportTerminal, BreaksExportLibrary, BreaksExportAddress}
use Rattle.macho_tables.specs.MappedAddresses.{IsMapped}
use Rattle.macho_tables.specs.Limits.{library_count}
use Rattle.macho_exports.specs.declared.export_trie.Export.{Export}
use Rattle.macho_exports.specs.declared.export_trie.ExportEdge.{ExportEdge}
use Rattle.macho_exports.specs.declared.export_trie.ExportNode.{ExportNode}
use Rattle.macho_exports.specs.declared.export_trie.Target.{Target}
use Rattle.macho_exports.specs.declared.export_trie.Target.TheVariants as target
use Rattle.macho_exports.proofs.ExportNodes.{met_headless, met_edgeless, met_node}
use Rattle.macho_exports.proofs.ExportSurveys.{HaveNone}
use Rattle.macho_exports.proofs.ExportTries.{head_within, edges_within}

-- A node has a byte or more

pub node_begins : (trie : List ℕ) (place : ℕ) (node : Node) → node_at trie place ≡ Some node → place < node.end
node_begins trie place node is = by_head (head_at trie place) refl
  where
    whole : (head : ExportNode) (edges : List ExportEdge × ℕ) → head_at trie place ≡ Some head → edges_at head.edge_count trie head.edges ≡ Some edges → edges.1 ≡ node.end
    whole head edges some at =
        ap (λ (n : Node). n.end) (same_Some _ node (sym (met_node trie place head edges.0 edges.1 some at) ∙ is))

    by_edges : (head : ExportNode) (edges : Option (List ExportEdge × ℕ)) → head_at trie place ≡ Some head → edges_at head.edge_count trie head.edges ≡ edges → place < node.end
    by_edges head None some none = absurd (none-some node (sym (met_edgeless trie place head some none) ∙ is))
    by_edges head (Some edges) some at =
        let (begins, _) = head_within trie place head some in
        let goes = edges_within head.edge_count trie head.edges edges at in
        let end = whole head edges some at in omega (arith, begins, goes, end)

    by_head : (head : Option ExportNode) → head_at trie place ≡ head → place < node.end
    by_head None none = absurd (none-some node (sym (met_headless trie place none) ∙ is))
    by_head (Some head) some = by_edges head (edges_at head.edge_count trie head.edges) some refl

-- an item of a list, and what is before it and after it
contains_split : (xs : List ℕ) (x : ℕ) → Contains xs x → (before : List ℕ) × (after : List ℕ) × (xs ≡ before ++ x ∷ after)
contains_split [] x (k, less, at) = absurd (omega (arith, less))
contains_split (y ∷ ys) x among = elim (first_or_later y x ys among) [
  | inl same ↦ ([], ys, ap (λ (z : ℕ). z ∷ ys) same)
  | inr later ↦ let (before, after, split) = contains_split ys x later in (y ∷ before, after, ap (λ (l : List ℕ). y ∷ l) split)
]

-- Walks in which no node is broken

abbrev pub AreWhole : List ℕ → List Met → Type 0
AreWhole trie nodes = HaveNone (HasNoEnd trie) nodes × HaveNone (PassesTable trie) nodes

module _ (trie : List ℕ) where
  -- a node of such a walk, and the walk that follows
  pub whole_step : (m left place : ℕ) (waiting : List ℕ) → AreWhole trie (walk (suc m) trie left (place ∷ waiting))
      → (node : Node) × (node_at trie place ≡ Some node) × (node.end - place ≤ left) × AreWhole trie (walk m trie (left - (node.end - place)) (children node ++ waiting))
  whole_step m left place waiting (ended, kept) = by_node (node_at trie place) refl
    where
      here : Met
      here = record { place = place; left = left }

      first : Contains (walk (suc m) trie left (place ∷ waiting)) here
      first = contains_first here _

      by_node : (found : Option Node) → node_at trie place ≡ found
          → (node : Node) × (node_at trie place ≡ Some node) × (node.end - place ≤ left) × AreWhole trie (walk m trie (left - (node.end - place)) (children node ++ waiting))
      by_node None none = absurd (ended here first none)
      by_node (Some node) some =
          elim (cases_lt left (node.end - place)) [
            | inl past ↦ absurd (kept here first (of_some (λ n. left < n.end - place) (node_at trie place) node some past))
            | inr fits ↦
                let rest = walk m trie (left - (node.end - place)) (children node ++ waiting) in
                let is : walk (suc m) trie left (place ∷ waiting) ≡ here ∷ rest = rw (some, le-ltb left (node.end - place) fits) refl in
                let later = λ (met : Met) (among : Contains rest met). subst (λ (nodes : List Met). Contains nodes met) (sym is) (contains_later here met rest among) in
                (node, some, fits, (λ met among. ended met (later met among), λ met among. kept met (later met among)))
          ]

  -- past some of the nodes that wait
  whole_past : (bound m left : ℕ) (some others : List ℕ) → left < m → left ≤ bound → AreWhole trie (walk m trie left (some ++ others))
      → (n : ℕ) × (l : ℕ) × (l ≤ left) × (l < n) × AreWhole trie (walk n trie l others)
  whole_past bound m left [] others enough few whole = (m, left, omega arith, enough, whole)
  whole_past bound zero left (place ∷ some) others enough few whole = absurd (omega arith)
  whole_past zero (suc m) left (place ∷ some) others enough few whole =
      let (node, at, fits, rest) = whole_step m left place (some ++ others) whole in
      let begins = node_begins trie place node at in absurd (omega (arith, begins, fits, few))
  whole_past (suc bound) (suc m) left (place ∷ some) others enough few whole =
      let (node, at, fits, rest) = whole_step m left place (some ++ others) whole in
      let begins = node_begins trie place node at in
      let same = subst (λ (w : List ℕ). AreWhole trie (walk m trie (left - (node.end - place)) w)) (sym (append_assoc (children node) some others)) rest in
      let (n, l, less, more, then) = whole_past bound m (left - (node.end - place)) (children node ++ some) others (omega (arith, begins, fits, enough)) (omega (arith, begins, fits, few)) same in
      (n, l, omega (arith, less), more, then)

  -- the bytes of a node that is there
  pub bytes_at : (place : ℕ) (node : Node) → node_at trie place ≡ Some node → node_bytes trie place ≡ node.end - place
  bytes_at place node at = ap (λ (o : Option Node). option_map_or (λ (n : Node). n.end - place) o 0) at

  -- an edge that leads on is one of the node
  found_split : (test : ExportEdge → Bool) (edges : List ExportEdge) (edge : ExportEdge) → find test edges ≡ Some edge
      → (before : List ExportEdge) × (after : List ExportEdge) × (edges ≡ before ++ edge ∷ after)
  found_split test [] edge is = absurd (none-some edge is)
  found_split test (first ∷ edges) edge is = elim (cases_Bool (test first)) [
    | inl so ↦
        let same : first ≡ edge = same_Some first edge (sym (ap (λ b. cond b (Some first) (find test edges)) so) ∙ is) in
        ([], edges, ap (λ (e : ExportEdge). e ∷ edges) same)
    | inr not_so ↦
        let (before, after, split) = found_split test edges edge (sym (ap (λ b. cond b (Some first) (find test edges)) not_so) ∙ is) in
        (first ∷ before, after, ap (λ (es : List ExportEdge). first ∷ es) split)
  ]

  abbrev pub leads_on : ℕ → ℕ → List ℕ → ExportEdge → Option Span
  leads_on most left name edge = terminal_from most trie left edge.child (drop edge.label.len name)

  -- what a look-up does at a node that fits
  pub look_on : (most left place : ℕ) (name : List ℕ) (node : Node) → node_at trie place ≡ Some node → node.end - place ≤ left
      → terminal_from (suc most) trie left place name
      ≡ cond (ends name node) (Some node.terminal) (option_and_then (leads_on most (left - (node.end - place)) name) (find (begins_with trie name) node.edges))
  unfolding terminal_from
  look_on most left place name node is fits = rw (is, le-ltb left (node.end - place) fits) refl

  -- two look-ups with as much as the walk has find the same
  same_way : (bound m left place : ℕ) (waiting : List ℕ) → left < m → left ≤ bound → AreWhole trie (walk m trie left (place ∷ waiting))
      → (f g l k : ℕ) (name : List ℕ) → left ≤ f → left ≤ g → left ≤ l → left ≤ k → terminal_from f trie l place name ≡ terminal_from g trie k place name
  same_way bound zero left place waiting enough few whole f g l k name f_more g_more l_more k_more = absurd (omega arith)
  same_way zero (suc m) left place waiting enough few whole f g l k name f_more g_more l_more k_more =
      let (node, at, fits, rest) = whole_step m left place waiting whole in
      let begins = node_begins trie place node at in absurd (omega (arith, begins, fits, few))
  same_way (suc bound) (suc m) left place waiting enough few whole zero g l k name f_more g_more l_more k_more =
      let (node, at, fits, rest) = whole_step m left place waiting whole in
      let begins = node_begins trie place node at in absurd (omega (arith, begins, fits, f_more))
  same_way (suc bound) (suc m) left place waiting enough few whole (suc f) zero l k name f_more g_more l_more k_more =
      let (node, at, fits, rest) = whole_step m left place waiting whole in
      let begins = node_begins trie place node at in absurd (omega (arith, begins, fits, g_more))
  same_way (suc bound) (suc m) left place waiting enough few whole (suc f) (suc g) l k name f_more g_more l_more k_more =
      let (node, at, fits, rest) = whole_step m left place waiting whole in
      let begins = node_begins trie place node at in
      let one = look_on f l place name node at (omega (arith, fits, l_more)) in
      let other = look_on g k place name node at (omega (arith, fits, k_more)) in
      one ∙ (ap (λ (o : Option Span). cond (ends name node) (Some node.terminal) o) (by_edge (λ n r p w. same_way bound n r p w) node at fits begins rest (find (begins_with trie name) node.edges) refl) ∙ sym other)
    where
      by_edge : ((n r p : ℕ) (w : List ℕ) → r < n → r ≤ bound → AreWhole trie (walk n trie r (p ∷ w)) → (f g l k : ℕ) (name : List ℕ) → r ≤ f → r ≤ g → r ≤ l → r ≤ k
          → terminal_from f trie l p name ≡ terminal_from g trie k p name) → (node : Node) → node_at trie place ≡ Some node → node.end - place ≤ left → place < node.end → AreWhole trie (walk m trie (left - (node.end - place)) (children node ++ waiting))
          → (found : Option ExportEdge) → find (begins_with trie name) node.edges ≡ found
          → option_and_then (leads_on f (l - (node.end - place)) name) found ≡ option_and_then (leads_on g (k - (node.end - place)) name) found
      by_edge again node at fits begins rest None none = refl
      by_edge again node at fits begins rest (Some edge) some =
          let (before, after, split) = found_split (begins_with trie name) node.edges edge some in
          let places = λ (es : List ExportEdge). map (λ (e : ExportEdge). e.child) es in
          let wait : children node ++ waiting ≡ places before ++ edge.child ∷ (places after ++ waiting) =
          ap (λ (es : List ExportEdge). places es ++ waiting) split ∙ (ap (λ (p : List ℕ). p ++ waiting) (map-append _ before (edge ∷ after)) ∙ append_assoc (places before) (edge.child ∷ places after) waiting) in
          let (n, r, less, more, then) = whole_past left m (left - (node.end - place)) (places before) (edge.child ∷ (places after ++ waiting)) (omega (arith, begins, fits, enough)) (omega arith)
          (subst (λ (w : List ℕ). AreWhole trie (walk m trie (left - (node.end - place)) w)) wait rest) in
          again n r edge.child (places after ++ waiting) more (omega (arith, less, begins, fits, few)) then f g (l - (node.end - place)) (k - (node.end - place)) (drop edge.label.len name)
          (omega (arith, less, begins, fits, f_more)) (omega (arith, less, begins, fits, g_more)) (omega (arith, less, l_more)) (omega (arith, less, k_more))

  pub never_cut : AreWhole trie (met_nodes trie) → IsNeverCut trie
  unfolding find_terminal
  never_cut whole most left name more fits =
      same_way (length trie) (length trie + 1) (length trie) 0 [] (omega arith) (omega arith) whole most (length trie) left (length trie) name more (omega arith) fits (omega arith)

  -- a way has as many bytes as the walk from its first node on may have, or fewer
  way_fits : (bound m left place : ℕ) (waiting : List ℕ) → left < m → left ≤ bound → AreWhole trie (walk m trie left (place ∷ waiting))
      → (way : List ℕ) → IsWay trie place way → way_bytes trie (place ∷ way) ≤ left
  way_fits bound zero left place waiting enough few whole way is = absurd (omega arith)
  way_fits bound (suc m) left place waiting enough few whole [] is =
      let (node, at, fits, rest) = whole_step m left place waiting whole in
      let bytes = bytes_at place node at in omega (arith, bytes, fits)
  way_fits zero (suc m) left place waiting enough few whole (next ∷ way) is =
      let (node, at, fits, rest) = whole_step m left place waiting whole in
      let begins = node_begins trie place node at in absurd (omega (arith, begins, fits, few))
  way_fits (suc bound) (suc m) left place waiting enough few whole (next ∷ way) (parent, at_parent, among, onward) =
      let (node, at, fits, rest) = whole_step m left place waiting whole in
      let begins = node_begins trie place node at in
      let bytes = bytes_at place node at in
      let same : parent ≡ node = same_Some parent node (sym at_parent ∙ at) in
      let (before, after, split) = contains_split (children node) next (subst (λ (n : Node). Contains (children n) next) same among) in
      let wait : children node ++ waiting ≡ before ++ next ∷ (after ++ waiting) = ap (λ (p : List ℕ). p ++ waiting) split ∙ append_assoc before (next ∷ after) waiting in
      let (n, r, less, more, then) = whole_past left m (left - (node.end - place)) before (next ∷ (after ++ waiting)) (omega (arith, begins, fits, enough)) (omega arith)
      (subst (λ (w : List ℕ). AreWhole trie (walk m trie (left - (node.end - place)) w)) wait rest) in
      let later = way_fits bound n r next (after ++ waiting) more (omega (arith, less, begins, fits, few)) then way onward in
      omega (arith, bytes, later, less, fits)

  pub short_ways : AreWhole trie (met_nodes trie) → AreShortWays trie
  short_ways whole way is = way_fits (length trie) (length trie + 1) (length trie) 0 [] (omega arith) (omega arith) whole way is

-- What exports lead to

-- some has P, or none
some_or_none : (P : ℕ → Type 0) → ((x : ℕ) → P x ⊎ (¬ P x)) → (xs : List ℕ) → Any P xs ⊎ (¬ Any P xs)
some_or_none P either [] = inr (any_nil P)
some_or_none P either (x ∷ xs) = elim (either x) [
  | inl so ↦ inl (any_of P (x ∷ xs) x (contains_first x xs) so)
  | inr not_so ↦ elim (some_or_none P either xs) [
    | inl (k, y, less, at, has) ↦ inl (any_of P (x ∷ xs) y (contains_later x y xs (k, less, at)) has)
    | inr none ↦ inr (λ (k, y, less, at, has). elim (first_or_later x y xs (k, less, at)) [
      | inl same ↦ not_so (subst P (sym same) has)
      | inr later ↦ none (any_of P xs y later has)
    ])
  ]
]

module _ (image : List ℕ) where
  supplies_or_not : (address segment : ℕ) → Supplies image segment address ⊎ (¬ Supplies image segment address)
  supplies_or_not address segment = elim (cases_lt address (vmaddr image segment)) [
    | inl before ↦ inr (λ (from, below). omega (arith, before, from))
    | inr from ↦ elim (cases_lt address (vmaddr image segment + vmsize image segment)) [
      | inl below ↦ inl (from, below)
      | inr past ↦ inr (λ (_, below). omega (arith, past, below))
    ]
  ]

  -- what is not unmapped is mapped
  mapped : (address : ℕ) → ¬ (¬ IsMapped image address) → IsMapped image address
  mapped address not = elim (some_or_none (λ segment. Supplies image segment address) (supplies_or_not address) (all_segments image)) [
    | inl so ↦ so
    | inr not_so ↦ absurd (not not_so)
  ]

  is_there : (export : Export) (t : Target) → export.target ≡ t → ¬ HasNoLibrary image export → ¬ HasNoAddress image export → IsThere image export t
  is_there export (target.Reexport ordinal name) is library address = elim (cases_lt (library_count image) ordinal) [
    | inl above ↦ elim (cases_lt ordinal (2 ^ 64 - 3)) [
      | inl below ↦ absurd (library (subst (λ (t : Target). IsOfNoLibrary (library_count image) t) (sym is) (above, below)))
      | inr special ↦ inr special
    ]
    | inr within ↦ inl within
  ]
  is_there export (target.Address address resolver) is library none = elim (cases_Bool (is_absolute export.flags)) [
    | inl absolute ↦ inl absolute
    | inr other ↦ inr (λ base at.
        let never : ¬ LeadsNowhere image base (target.Address address resolver) =
        λ nowhere. none (
          other,
          of_some (λ b. LeadsNowhere image b export.target) (base_of image (commands_of image)) base at
              (subst (λ (t : Target). LeadsNowhere image base t) (sym is) nowhere),
        ) in
        (mapped (base + address) (λ out. never (inl out)), of_resolver base resolver (λ out. never (inr out))))
  ]
    where
      of_resolver : (base : ℕ) (r : Option ℕ) → ¬ IsSomeAnd r (λ a. ¬ IsMapped image (base + a)) → IfSome r (λ a. IsMapped image (base + a))
      of_resolver base None not = tt
      of_resolver base (Some a) not = mapped (base + a) not

  module _ (nodes : (place : ℕ) → ¬ BreaksExportNode image place) (totals : (place : ℕ) → ¬ BreaksExportTotal image place) (terminals : (place : ℕ) → ¬ BreaksExportTerminal image place)
      (libraries : (place : ℕ) → ¬ BreaksExportLibrary image place) (addresses : (place : ℕ) → ¬ BreaksExportAddress image place) where
    module _ (table : Span) (is : export_table image ≡ Some table) where
      abbrev trie : List ℕ
      trie = part table.start table.len image

      none_met : (place_of : Met → ℕ) (P : Met → Type 0) (Rule : List ℕ → List ℕ → ℕ → Type 0) → Rule image trie ≡ AtMet place_of P (met_nodes trie) → ((place : ℕ) → ¬ InExports image Rule place) → HaveNone P (met_nodes trie)
      none_met place_of P Rule same none met among has =
          none (table.start + place_of met)
          (of_some (λ t. (offset : ℕ) × (table.start + place_of met ≡ t.start + offset) × Rule image (part t.start t.len image) offset) (export_table image) table is
          (place_of met, refl, subst (λ (R : ℕ → Type 0). R (place_of met)) (sym same) (met, among, refl, has)))

      whole : AreWhole trie (met_nodes trie)
      whole = (none_met _ (HasNoEnd trie) EndlessNode refl nodes, none_met _ (PassesTable trie) TooManyBytes refl totals)

      sound_nodes : AreSoundNodes image trie
      sound_nodes met among = by_node (node_at trie met.place) refl
        where
          no_terminal : (Q : Span → Type 0) → HaveNone (HasTerminal trie Q) (met_nodes trie) → (node : Node) → node_at trie met.place ≡ Some node → ¬ Q node.terminal
          no_terminal Q none node at has =
              elim (cases_lt met.left (node.end - met.place)) [
                | inl past ↦ whole.1 met among (of_some (λ n. met.left < n.end - met.place) (node_at trie met.place) node at past)
                | inr fits ↦ none met among (of_some (λ n. (n.end - met.place ≤ met.left) × Q n.terminal) (node_at trie met.place) node at (fits, has))
              ]

          by_export : (node : Node) → node_at trie met.place ≡ Some node → 0 < node.terminal.len → (found : Option Export) → whole_export trie node.terminal ≡ found → IsSoundTerminal image trie node.terminal
          by_export node at some None none =
              absurd (no_terminal (IsBadTerminal trie) (none_met _ (HasTerminal trie (IsBadTerminal trie)) BadTerminal refl terminals) node at (some, none))
          by_export node at some (Some export) read = (
            export,
            read,
            is_there export export.target refl
                (λ has. no_terminal (HasExport trie (HasNoLibrary image)) (none_met _ (HasTerminal trie (HasExport trie (HasNoLibrary image))) UnknownLibrary refl libraries) node at
                (some, of_some (HasNoLibrary image) (whole_export trie node.terminal) export read has))
                (λ has. no_terminal (HasExport trie (HasNoAddress image)) (none_met _ (HasTerminal trie (HasExport trie (HasNoAddress image))) UnknownAddress refl addresses) node at
                (some, of_some (HasNoAddress image) (whole_export trie node.terminal) export read has)),
          )

          by_node : (found : Option Node) → node_at trie met.place ≡ found → (node : Node) × (node_at trie met.place ≡ Some node) × (0 < node.terminal.len → IsSoundTerminal image trie node.terminal)
          by_node None none = absurd (whole.0 met among none)
          by_node (Some node) at = (node, at, λ some. by_export node at some (whole_export trie node.terminal) refl)

    pub sound_exports : AreSoundExports image
    sound_exports table is = (sound_nodes table is, short_ways (trie table is) (whole table is), never_cut (trie table is) (whole table is))
