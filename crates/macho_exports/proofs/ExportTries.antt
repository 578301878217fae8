-- The export trie: names, nodes, and the way of a name.
use Rattle.std.proofs.Common.{◌≡◌, ◌∙◌, ℕ, zero, suc, ◌+◌, ◌-◌, ◌≤◌, ◌<◌, ◌==◌, ◌⊎◌, List, [], ◌∷◌, length, drop, Bool, true, false, cond, Option, Some, None, inl, inr, refl, sym, ap, subst, arith, slice_get, length-drop}
use Rattle.std.specs.Prelude.{nat_lt, ◌&&◌, find}
use Rattle.std.specs.Option.{option_map, option_and_then, option_or, is_some}
use Rattle.std.proofs.lemmas.Bool.{cases_lt, lt-ltb, le-ltb, ltb-true}
use Rattle.std.proofs.Math.ListN.{drop_of_length-le}
use Rattle.std.proofs.lemmas.List.{length-take-le}
use Rattle.std.proofs.lemmas.Option.{slice_get_within, same_Some}
use Rattle.macho_fields.specs.Field.{part, string_from, HasZero}
use Rattle.macho_fields.proofs.Strings.{string_ends}
use Rattle.macho_spans.specs.declared.span.Span.{Span}
use Rattle.macho_exports.specs.ExportTrie.{Node, name_at, edge_at, edges_at, head_at, node_at, begins_with, terminal_from}
use Rattle.macho_tables.specs.Numbers.{number_bytes, unsigned_at}
use Rattle.macho_exports.specs.declared.export_trie.ExportEdge.{ExportEdge}
use Rattle.macho_exports.specs.declared.export_trie.ExportNode.{ExportNode}
use Rattle.macho_tables.proofs.StringSizes.{endless_size}
use Rattle.macho_tables.proofs.NumberEnds.{IsWithin, unsigned_within}

-- What an option is made of

chosen : {X : Type 0} (b : Bool) (given x : X) → cond b (Some given) None ≡ Some x → (b ≡ true) × (given ≡ x)
chosen true given x is = (refl, same_Some given x is)
chosen false given x is = absurd (cc)

pub then_some : {X Y : Type 0} (f : X → Option Y) (o : Option X) (y : Y) → option_and_then f o ≡ Some y → (x : X) × (o ≡ Some x) × (f x ≡ Some y)
then_some f None y is = absurd (cc)
then_some f (Some x) y is = (x, refl, is)

pub made_some : {X Y : Type 0} (f : X → Y) (o : Option X) (y : Y) → option_map f o ≡ Some y → (x : X) × (o ≡ Some x) × (f x ≡ y)
made_some f None y is = absurd (cc)
made_some f (Some x) y is = (x, refl, same_Some (f x) y is)

-- Names

-- a name ends at its first zero byte
pub name_some : (bytes : List ℕ) (name z : ℕ) → name ≤ z → slice_get bytes z ≡ Some 0 → (HasZero bytes name z → ⊥)
    → name_at bytes name ≡ Some (record { start = name; len = z - name }, z + 1)
unfolding name_at
name_some bytes name z from there first =
    let inside = slice_get_within bytes z 0 there in
    let is = string_ends bytes name z from there first in
    let size : length (part name (z - name) bytes) ≡ z - name = length-take-le (z - name) (drop name bytes) (rw (length-drop name bytes) (omega arith)) in
    let end : name + length (string_from name bytes) ≡ z = rw (← is, size) (omega arith) in
    rw (end, lt-ltb z (length bytes) inside) refl

-- a name without a zero byte does not end
pub name_none : (bytes : List ℕ) (name : ℕ) → (HasZero bytes name (name + length bytes) → ⊥) → name_at bytes name ≡ None
unfolding name_at
name_none bytes name none =
    let size = endless_size bytes name none in
    let past : length bytes ≤ name + length (string_from name bytes) = omega (arith, size) in rw (le-ltb _ _ past) refl

-- What is read ends past where it begins, in the bytes

-- a name and its zero byte
pub name_within : (bytes : List ℕ) (place : ℕ) (name : Span) (next : ℕ) → name_at bytes place ≡ Some (name, next)
    → (place < next) × (next ≤ length bytes) × (name.start + name.len < next)
unfolding name_at
name_within bytes place name next is =
    let zero = place + length (string_from place bytes) in
    let span : Span = record { start = place; len = zero - place } in
    let (inside, same) = chosen (nat_lt zero (length bytes)) (span, zero + 1) (name, next) is in
    let less : zero < length bytes = ltb-true zero (length bytes) inside in
    let end : zero + 1 ≡ next = ap (λ (r : Span × ℕ). r.1) same in
    let start : place ≡ name.start = ap (λ (r : Span × ℕ). r.0.start) same in
    let len : zero - place ≡ name.len = ap (λ (r : Span × ℕ). r.0.len) same in (omega arith, omega arith, omega arith)

past_end : (stream : List ℕ) (place : ℕ) → length stream < place → number_bytes (drop place stream) ≡ None
unfolding number_bytes
past_end stream place past =
    let none : drop place stream ≡ [] = drop_of_length-le stream (omega arith) in rw none refl

pub number_ends : (stream : List ℕ) (place value next : ℕ) → unsigned_at stream place ≡ Some (value, next) → (place ≤ next) × (next ≤ length stream)
unfolding unsigned_at
number_ends stream place value next is =
    elim (cases_lt (length stream) place) [
      | inl past ↦ let (bytes, at, same) = then_some _ (number_bytes (drop place stream)) (value, next) is in
          let never : None ≡ Some bytes = sym (past_end stream place past) ∙ at in absurd (cc)
      | inr inside ↦ subst (IsWithin stream place) is (unsigned_within stream place inside)
    ]

-- an edge, and its label
pub edge_within : (trie : List ℕ) (place : ℕ) (edge : ExportEdge) (next : ℕ) → edge_at trie place ≡ Some (edge, next)
    → (place < next) × (edge.label.start + edge.label.len ≤ length trie)
unfolding edge_at
edge_within trie place edge next is =
    let (label, named, then) = then_some _ (name_at trie place) (edge, next) is in
    let (child, at, same) = made_some _ (unsigned_at trie label.1) (edge, next) then in
    let name = name_within trie place label.0 label.1 named in
    let number = number_ends trie label.1 child.0 child.1 at in
    let end : child.1 ≡ next = ap (λ (r : ExportEdge × ℕ). r.1) same in
    let start : label.0.start ≡ edge.label.start = ap (λ (r : ExportEdge × ℕ). r.0.label.start) same in
    let len : label.0.len ≡ edge.label.len = ap (λ (r : ExportEdge × ℕ). r.0.label.len) same in (omega arith, omega arith)

-- edges
pub edges_within : (count : ℕ) (trie : List ℕ) (place : ℕ) (r : List ExportEdge × ℕ) → edges_at count trie place ≡ Some r → place ≤ r.1
edges_within zero trie place r is = let same : place ≡ r.1 = ap (λ (r : List ExportEdge × ℕ). r.1) (same_Some ([], place) r is) in omega arith
edges_within (suc count) trie place r is =
    let (edge, at, then) = then_some _ (edge_at trie place) r is in
    let (others, more, same) = made_some _ (edges_at count trie edge.1) r then in
    let first = edge_within trie place edge.0 edge.1 at in
    let rest = edges_within count trie edge.1 others more in
    let end : others.1 ≡ r.1 = ap (λ (r : List ExportEdge × ℕ). r.1) same in omega arith

-- a node begins with a byte or more, and its terminal part lies in the table
pub head_within : (trie : List ℕ) (place : ℕ) (head : ExportNode) → head_at trie place ≡ Some head
    → (place < head.edges) × (head.terminal.start + head.terminal.len ≤ length trie)
unfolding head_at
head_within trie place head is =
    let (size, at, then) = then_some _ (unsigned_at trie place) head is in
    let (count, more, same) = made_some _ (slice_get trie (size.1 + size.0)) head then in
    let number = number_ends trie place size.0 size.1 at in
    let inside = slice_get_within trie (size.1 + size.0) count more in
    let edges : size.1 + size.0 + 1 ≡ head.edges = ap (λ (h : ExportNode). h.edges) same in
    let start : size.1 ≡ head.terminal.start = ap (λ (h : ExportNode). h.terminal.start) same in
    let len : size.0 ≡ head.terminal.len = ap (λ (h : ExportNode). h.terminal.len) same in (omega arith, omega arith)

-- The edge that leads on

-- the edge that was found, or else the first of some edges that leads on, and the place past these
abbrev picked : List ℕ → List ℕ → Option ExportEdge → List ExportEdge × ℕ → Option ExportEdge × ℕ
picked trie name first edges = (option_or first (find (begins_with trie name) edges.0), edges.1)

-- of so many edges from a place on
abbrev pub follow_from : ℕ → List ℕ → ℕ → List ℕ → Option ExportEdge → Option (Option ExportEdge × ℕ)
follow_from count trie place name first =
    option_map (picked trie name first) (edges_at count trie place)

-- of an edge that was found before, or not, and this one
abbrev pub or_edge : List ℕ → List ℕ → Option ExportEdge → ExportEdge → Option ExportEdge
or_edge trie name first edge = option_or first (cond (begins_with trie name edge) (Some edge) None)

joined : (leads : ExportEdge → Bool) (first : Option ExportEdge) (edge : ExportEdge) (edges : List ExportEdge)
    → option_or first (find leads (edge ∷ edges)) ≡ option_or (option_or first (cond (leads edge) (Some edge) None)) (find leads edges)
joined leads (Some found) edge edges = refl
joined leads None edge edges = either (leads edge)
  where
    either : (b : Bool) → cond b (Some edge) (find leads edges) ≡ option_or (cond b (Some edge) None) (find leads edges)
    either true = refl
    either false = refl

pub follow_more : (count : ℕ) (trie : List ℕ) (place : ℕ) (name : List ℕ) (first : Option ExportEdge) (edge : ExportEdge) (next : ℕ)
    → edge_at trie place ≡ Some (edge, next)
    → follow_from (suc count) trie place name first ≡ follow_from count trie next name (or_edge trie name first edge)
follow_more count trie place name first edge next is = rw is (each (edges_at count trie next))
  where
    each : (others : Option (List ExportEdge × ℕ))
        → option_map (picked trie name first) (option_map (λ o. (edge ∷ o.0, o.1)) others) ≡ option_map (picked trie name (or_edge trie name first edge)) others
    each None = refl
    each (Some o) = ap (λ f. Some (f, o.1)) (joined (begins_with trie name) first edge o.0)

-- one edge more, with what is found then
pub follow_next : (end counter : ℕ) (trie : List ℕ) (place : ℕ) (name : List ℕ) (first then : Option ExportEdge) (edge : ExportEdge) (next : ℕ)
    → counter < end → edge_at trie place ≡ Some (edge, next) → then ≡ or_edge trie name first edge
    → follow_from (end - (counter + 1)) trie next name then ≡ follow_from (end - counter) trie place name first
follow_next end counter trie place name first then edge next less is found =
    let step : end - counter ≡ suc (end - (counter + 1)) = omega arith in
    rw (step, found) (sym (follow_more (end - (counter + 1)) trie place name first edge next is))

pub or_this : (trie name : List ℕ) (first : Option ExportEdge) (edge : ExportEdge) → is_some first ≡ false → begins_with trie name edge ≡ true
    → or_edge trie name first edge ≡ Some edge
or_this trie name None edge none leads = rw leads refl
or_this trie name (Some found) edge none leads = absurd (cc)

pub or_first : (trie name : List ℕ) (first : Option ExportEdge) (edge : ExportEdge) → begins_with trie name edge ≡ false
    → or_edge trie name first edge ≡ first
or_first trie name None edge not = rw not refl
or_first trie name (Some found) edge not = refl

pub or_found : (trie name : List ℕ) (first : Option ExportEdge) (edge : ExportEdge) → is_some first ≡ true → or_edge trie name first edge ≡ first
or_found trie name None edge some = absurd (cc)
or_found trie name (Some found) edge some = refl

-- The way of a name

-- what follows of a node: its terminal part, the edge that leads on, and where it ends
abbrev pub way_on : ℕ → List ℕ → ℕ → ℕ → List ℕ → Span → Option ExportEdge → ℕ → Option Span
way_on most trie left place name terminal first end =
    cond (nat_lt left (end - place)) None
    (cond ((length name == 0) && nat_lt 0 terminal.len) (Some terminal)
    (option_and_then (λ (edge : ExportEdge). terminal_from most trie (left - (end - place)) edge.child (drop edge.label.len name)) first))

module _ (most : ℕ) (trie : List ℕ) (left place : ℕ) (name : List ℕ) where
  -- the edges of a node as they are read
  whole : ExportNode → List ExportEdge × ℕ → Node
  whole head edges = record { terminal = head.terminal; edges = edges.0; end = edges.1 }

  from_node : Node → Option Span
  from_node node = way_on most trie left place name node.terminal (find (begins_with trie name) node.edges) node.end

  pub way_headless : head_at trie place ≡ None → terminal_from (suc most) trie left place name ≡ None
  unfolding terminal_from node_at
  way_headless is = rw is refl

  stuck : (head : ExportNode) (edges : Option (List ExportEdge × ℕ)) → None ≡ option_map (picked trie name None) edges
      → option_and_then from_node (option_map (whole head) edges) ≡ None
  stuck head None is = refl
  stuck head (Some e) is = absurd (cc)

  pub way_edgeless : (head : ExportNode) → head_at trie place ≡ Some head
      → None ≡ option_map (picked trie name None) (edges_at head.edge_count trie head.edges)
      → terminal_from (suc most) trie left place name ≡ None
  unfolding terminal_from node_at whole from_node
  way_edgeless head is none = rw is (stuck head (edges_at head.edge_count trie head.edges) none)

  led : (head : ExportNode) (edges : Option (List ExportEdge × ℕ)) (first : Option ExportEdge) (end : ℕ) → Some (first, end) ≡ option_map (picked trie name None) edges
      → option_and_then from_node (option_map (whole head) edges) ≡ way_on most trie left place name head.terminal first end
  unfolding whole from_node
  led head None first end is = absurd (cc)
  led head (Some e) first end is =
      let same = same_Some (first, end) (picked trie name None e) is in
      let one : first ≡ find (begins_with trie name) e.0 = ap (λ (r : Option ExportEdge × ℕ). r.0) same in
      let other : end ≡ e.1 = ap (λ (r : Option ExportEdge × ℕ). r.1) same in rw (one, other) refl

  pub way_node : (head : ExportNode) (first : Option ExportEdge) (end : ℕ) → head_at trie place ≡ Some head
      → Some (first, end) ≡ option_map (picked trie name None) (edges_at head.edge_count trie head.edges)
      → terminal_from (suc most) trie left place name ≡ way_on most trie left place name head.terminal first end
  unfolding terminal_from node_at whole from_node
  way_node head first end is some = rw is (led head (edges_at head.edge_count trie head.edges) first end some)

  pub node_within : (head : ExportNode) (first : Option ExportEdge) (end : ℕ) → head_at trie place ≡ Some head
      → Some (first, end) ≡ option_map (picked trie name None) (edges_at head.edge_count trie head.edges) → place < end
  node_within head first end is some =
      let (edges, at, same) = made_some (picked trie name None) (edges_at head.edge_count trie head.edges) (first, end) (sym some) in
      let begins = head_within trie place head is in
      let goes = edges_within head.edge_count trie head.edges edges at in
      let ends : edges.1 ≡ end = ap (λ (r : Option ExportEdge × ℕ). r.1) same in omega arith

  -- more than may be
  pub way_long : (terminal : Span) (first : Option ExportEdge) (end : ℕ) → left < end - place
      → way_on most trie left place name terminal first end ≡ None
  way_long terminal first end more = rw (lt-ltb left (end - place) more) refl

  -- the name ends here
  pub way_ended : (terminal : Span) (first : Option ExportEdge) (end : ℕ) → end - place ≤ left → (length name == 0) ≡ true → 0 < terminal.len
      → way_on most trie left place name terminal first end ≡ Some terminal
  way_ended terminal first end fits empty some =
      rw (le-ltb left (end - place) fits, empty, lt-ltb 0 terminal.len some) refl

  -- it goes on
  abbrev pub GoesOn : Span → Type 0
  GoesOn terminal = ((length name == 0) ≡ false) ⊎ (terminal.len ≤ 0)

  pub way_more : (terminal : Span) (first : Option ExportEdge) (end : ℕ) → end - place ≤ left → GoesOn terminal
      → way_on most trie left place name terminal first end
      ≡ option_and_then (λ (edge : ExportEdge). terminal_from most trie (left - (end - place)) edge.child (drop edge.label.len name)) first
  way_more terminal first end fits (inl some) = rw (le-ltb left (end - place) fits, some) refl
  way_more terminal first end fits (inr none) = rw (le-ltb left (end - place) fits, le-ltb 0 terminal.len none) (either (length name == 0))
    where
      on : Option Span
      on = option_and_then (λ (edge : ExportEdge). terminal_from most trie (left - (end - place)) edge.child (drop edge.label.len name)) first

      either : (b : Bool) → cond (b && false) (Some terminal) on ≡ on
      either true = refl
      either false = refl

  pub way_stuck : (terminal : Span) (first : Option ExportEdge) (end : ℕ) → end - place ≤ left → GoesOn terminal → first ≡ None
      → way_on most trie left place name terminal first end ≡ None
  way_stuck terminal first end fits goes none = rw none (way_more terminal None end fits goes)

  pub way_led : (terminal : Span) (first : Option ExportEdge) (end : ℕ) (edge : ExportEdge) → end - place ≤ left → GoesOn terminal → first ≡ Some edge
      → way_on most trie left place name terminal first end ≡ terminal_from most trie (left - (end - place)) edge.child (drop edge.label.len name)
  way_led terminal first end edge fits goes some = rw some (way_more terminal (Some edge) end fits goes)

-- nodes that may be met, and one that is
pub one_met : (end counter : ℕ) (trie : List ℕ) (left place : ℕ) (name : List ℕ) (found : Option Span) → counter < end
    → terminal_from (end - counter) trie left place name ≡ found → terminal_from (suc (end - (counter + 1))) trie left place name ≡ found
one_met end counter trie left place name found less is =
    let step : suc (end - (counter + 1)) ≡ end - counter = omega arith in rw step is

-- none may be met any more
pub none_met : (end counter : ℕ) (trie : List ℕ) (left place : ℕ) (name : List ℕ) (found : Option Span) → end ≤ counter
    → terminal_from (end - counter) trie left place name ≡ found → None ≡ found
unfolding terminal_from
none_met end counter trie left place name found past is =
    let none : end - counter ≡ 0 = omega arith in rw none at is
