-- How the labels of a node are read, and how they are compared.
use Rattle.std.proofs.Common.{◌≡◌, ◌∙◌, ◌↔◌, ◌⊎◌, ℕ, suc, ◌+◌, ◌-◌, ◌≤◌, ◌<◌, List, [], ◌∷◌, ◌++◌, length, map, take, drop, get_or, Any, Option, Some, None, true, false, refl, sym, ap, subst, arith, inl, inr}
use Rattle.std.specs.Prelude.{nat_eq}
use Rattle.std.specs.List.{starts_with}
use Rattle.std.specs.Option.{option_map}
use Rattle.std.specs.Borrow.{Bor}
use Rattle.std.proofs.lemmas.List.{append-nil, append_assoc, map-append, take_more, take-append-drop, take_all}
use Rattle.std.proofs.lemmas.List.Elements.{Contains-append_left, Contains-push, Contains-push_cases}
use Rattle.std.proofs.lemmas.Option.{same_Some}
use lib.Pointwise.{bytes_decides}
use Rattle.macho_exports.specs.ExportTrie.{edge_at, edges_at}
use Rattle.macho_exports.specs.declared.export_trie.ExportEdge.{ExportEdge}
use Rattle.macho_exports.specs.declared.export_trie.ExportNode.{ExportNode}
use Rattle.macho_fields.proofs.Lists.{any_nil, any_of, contains_first, contains_later, first_or_later}
use Rattle.macho_rules.proofs.Searches.{one_of}
use Rattle.macho_alike.specs.Exports.{Clash, AnyTwo, HasClash, label_of}
use Rattle.macho_alike.specs.Labels.{texts, AreLabels, IsBad}

-- Reading

-- some labels, and the labels of so many edges from a place on after them
abbrev pub read_from : ℕ → List ℕ → ℕ → List (List ℕ) → Option (List (List ℕ))
read_from count trie place before = option_map (λ (edges : List ExportEdge × ℕ). before ++ map (label_of trie) edges.0) (edges_at count trie place)

read_more : (count : ℕ) (trie : List ℕ) (place : ℕ) (before : List (List ℕ)) (edge : ExportEdge) (next : ℕ) → edge_at trie place ≡ Some (edge, next)
    → read_from (suc count) trie place before ≡ read_from count trie next (before ++ label_of trie edge ∷ [])
read_more count trie place before edge next is = rw is (each (edges_at count trie next))
  where
    each : (others : Option (List ExportEdge × ℕ))
        → option_map (λ (edges : List ExportEdge × ℕ). before ++ map (label_of trie) edges.0) (option_map (λ o. (edge ∷ o.0, o.1)) others)
        ≡ option_map (λ (edges : List ExportEdge × ℕ). (before ++ label_of trie edge ∷ []) ++ map (label_of trie) edges.0) others
    each None = refl
    each (Some o) = ap (λ (labels : List (List ℕ)). Some labels) (sym (append_assoc before (label_of trie edge ∷ []) (map (label_of trie) o.0)))

pub read_next : (end counter : ℕ) (trie : List ℕ) (place : ℕ) (before : List (List ℕ)) (edge : ExportEdge) (next : ℕ) → counter < end → edge_at trie place ≡ Some (edge, next)
    → read_from (end - (counter + 1)) trie next (before ++ label_of trie edge ∷ []) ≡ read_from (end - counter) trie place before
read_next end counter trie place before edge next less is =
    let step : end - counter ≡ suc (end - (counter + 1)) = omega arith in
    rw step (sym (read_more (end - (counter + 1)) trie place before edge next is))

pub read_over : (end counter : ℕ) (trie : List ℕ) (place : ℕ) (before : List (List ℕ)) → counter < end → edge_at trie place ≡ None → read_from (end - counter) trie place before ≡ None
read_over end counter trie place before less is =
    let step : end - counter ≡ suc (end - (counter + 1)) = omega arith in
    rw (step, is) refl

pub read_all : (end counter : ℕ) (trie : List ℕ) (place : ℕ) (before : List (List ℕ)) → end ≤ counter → read_from (end - counter) trie place before ≡ Some before
read_all end counter trie place before done =
    let none : end - counter ≡ 0 = omega arith in
    rw none (ap (λ (labels : List (List ℕ)). Some labels) (append-nil before))

module _ (trie : List ℕ) (node : ExportNode) (old new : List (Bor (List ℕ))) where
  pub labels_read : Some (texts new) ≡ read_from node.edge_count trie node.edges (texts old) → AreLabels trie node old new true
  labels_read = by_edges (edges_at node.edge_count trie node.edges) refl
    where
      by_edges : (edges : Option (List ExportEdge × ℕ)) → edges_at node.edge_count trie node.edges ≡ edges
          → Some (texts new) ≡ option_map (λ (e : List ExportEdge × ℕ). texts old ++ map (label_of trie) e.0) edges → AreLabels trie node old new true
      by_edges None at is = absurd (cc)
      by_edges (Some e) at is = (e, at, same_Some (texts new) (texts old ++ map (label_of trie) e.0) is)

  pub labels_endless : None ≡ read_from node.edge_count trie node.edges (texts old) → AreLabels trie node old new false
  labels_endless = by_edges (edges_at node.edge_count trie node.edges)
    where
      by_edges : (edges : Option (List ExportEdge × ℕ)) → None ≡ option_map (λ (e : List ExportEdge × ℕ). texts old ++ map (label_of trie) e.0) edges → edges ≡ None
      by_edges None is = refl
      by_edges (Some e) is = absurd (cc)

-- a list begins with another where its first items are that
pub begins : (xs needle : List ℕ) → take (length needle) xs ≡ needle → starts_with nat_eq xs needle ≡ true
begins xs needle is = (bytes_decides needle (take (length needle) xs)).1 (sym is)

pub begun : (xs needle : List ℕ) → starts_with nat_eq xs needle ≡ true → take (length needle) xs ≡ needle
begun xs needle is = sym ((bytes_decides needle (take (length needle) xs)).0 is)

-- a label clashes with one that is not longer where it begins with that
pub clash_begun : (short long : List ℕ) → length short ≤ length long → Clash short long → starts_with nat_eq long short ≡ true
clash_begun short long less (inl is) =
    let same : short ≡ long = sym (take_all (length long) short less) ∙ begun short long is in
    subst (λ (l : List ℕ). starts_with nat_eq l short ≡ true) same (begins short short (take_all (length short) short (omega arith)))
clash_begun short long less (inr is) = is

pub clash_longer : (one other : List ℕ) → length one ≤ length other → (starts_with nat_eq other one ≡ true) ↔ Clash one other
clash_longer one other less = (λ is. inr is, clash_begun one other less)

-- Comparing

any_more : {X : Type 0} (P : X → Type 0) (xs : List X) (y : X) → Any P (xs ++ y ∷ []) ↔ (Any P xs ⊎ P y)
any_more P xs y = (
  λ any. let (z, has, here) = one_of P (xs ++ y ∷ []) any in elim (Contains-push_cases xs y z has) [
    | inl before ↦ inl (any_of P xs z before here)
    | inr same ↦ inr (subst P (sym same) here)
  ],
  λ either. elim either [
    | inl any ↦ let (z, has, here) = one_of P xs any in any_of P (xs ++ y ∷ []) z (Contains-append_left xs (y ∷ []) z has) here
    | inr here ↦ any_of P (xs ++ y ∷ []) y (Contains-push xs y) here
  ],
)

any_either : {X : Type 0} (P : X → Type 0) (x : X) (xs : List X) → Any P (x ∷ xs) ↔ (P x ⊎ Any P xs)
any_either P x xs = (
  λ any. let (z, has, here) = one_of P (x ∷ xs) any in elim (first_or_later x z xs has) [
    | inl same ↦ inl (subst P (sym same) here)
    | inr later ↦ inr (any_of P xs z later here)
  ],
  λ either. elim either [
    | inl here ↦ any_of P (x ∷ xs) x (contains_first x xs) here
    | inr any ↦ let (z, has, here) = one_of P xs any in any_of P (x ∷ xs) z (contains_later x z xs has) here
  ],
)

two_more : {X : Type 0} (R : X → X → Type 0) (xs : List X) (y : X) → AnyTwo R (xs ++ y ∷ []) ↔ (AnyTwo R xs ⊎ Any (λ x. R x y) xs)
two_more R [] y = (
  λ either. elim either [ inl any ↦ absurd (any_nil (R y) any) | inr none ↦ absurd none ],
  λ either. elim either [ inl none ↦ absurd none | inr any ↦ absurd (any_nil (λ x. R x y) any) ],
)
two_more R (x ∷ xs) y =
    let here = any_more (R x) xs y in
    let rest = two_more R xs y in
    let first = any_either (λ z. R z y) x xs in (
      λ either. elim either [
        | inl any ↦ elim (here.0 any) [ inl before ↦ inl (inl before) | inr this ↦ inr (first.1 (inl this)) ]
        | inr two ↦ elim (rest.0 two) [ inl before ↦ inl (inr before) | inr any ↦ inr (first.1 (inr any)) ]
      ],
      λ either. elim either [
        | inl two ↦ elim two [ inl any ↦ inl (here.1 (inl any)) | inr later ↦ inr (rest.1 (inl later)) ]
        | inr any ↦ elim (first.0 any) [ inl this ↦ inl (here.1 (inr this)) | inr later ↦ inr (rest.1 (inr later)) ]
      ],
    )

-- one label more
clash_more : (labels : List (List ℕ)) (label : List ℕ) → HasClash (labels ++ label ∷ []) ↔ (HasClash labels ⊎ IsBad labels label)
clash_more labels label =
    let empty = any_more (λ (l : List ℕ). l ≡ []) labels label in
    let two = two_more Clash labels label in (
      λ has. elim has [
        | inl any ↦ elim (empty.0 any) [ inl before ↦ inl (inl before) | inr this ↦ inr (inl this) ]
        | inr pair ↦ elim (two.0 pair) [ inl before ↦ inl (inr before) | inr this ↦ inr (inr this) ]
      ],
      λ either. elim either [
        | inl has ↦ elim has [ inl any ↦ inl (empty.1 (inl any)) | inr pair ↦ inr (two.1 (inl pair)) ]
        | inr bad ↦ elim bad [ inl this ↦ inl (empty.1 (inr this)) | inr any ↦ inr (two.1 (inr any)) ]
      ],
    )

pub no_clash : ¬ HasClash []
no_clash has = elim has [ inl any ↦ any_nil (λ (l : List ℕ). l ≡ []) any | inr none ↦ none ]

-- a clash stays where labels are added
clash_among : (others labels : List (List ℕ)) → HasClash labels → HasClash (labels ++ others)
clash_among [] labels has = subst HasClash (sym (append-nil labels)) has
clash_among (other ∷ others) labels has = subst HasClash (append_assoc labels (other ∷ []) others) (clash_among others (labels ++ other ∷ []) ((clash_more labels other).1 (inl has)))

-- As the code has it

abbrev texts_to : ℕ → List (Bor (List ℕ)) → List (List ℕ)
texts_to count labels = texts (take count labels)

-- one of the labels, and those up to it
module _ (labels : List (Bor (List ℕ))) (count : ℕ) (other : Bor (List ℕ)) (less : count < length labels) where
  abbrev label : List ℕ
  label = (get_or labels count other).now

  next_text : texts_to (count + 1) labels ≡ texts_to count labels ++ label ∷ []
  next_text = ap texts (take_more labels count other less) ∙ map-append (λ (l : Bor (List ℕ)). l.now) (take count labels) (get_or labels count other ∷ [])

  -- it does not clash
  pub clash_next : ¬ HasClash (texts_to count labels) → ¬ IsBad (texts_to count labels) label → ¬ HasClash (texts_to (count + 1) labels)
  clash_next none not has = elim ((clash_more (texts_to count labels) label).0 (subst HasClash next_text has)) [ inl before ↦ none before | inr here ↦ not here ]

  -- or it does
  pub clash_found : IsBad (texts_to count labels) label → HasClash (texts labels)
  clash_found bad =
      let here : HasClash (texts_to (count + 1) labels) = subst HasClash (sym next_text) ((clash_more (texts_to count labels) label).1 (inr bad)) in
      let whole : texts_to (count + 1) labels ++ texts (drop (count + 1) labels) ≡ texts labels =
      sym (map-append (λ (l : Bor (List ℕ)). l.now) (take (count + 1) labels) (drop (count + 1) labels)) ∙ ap texts (take-append-drop (count + 1) labels) in
      subst HasClash whole (clash_among (texts (drop (count + 1) labels)) (texts_to (count + 1) labels) here)

pub all_texts : (labels : List (Bor (List ℕ))) (count : ℕ) → length labels ≤ count → texts_to count labels ≡ texts labels
all_texts labels count all = ap texts (take_all count labels all)
