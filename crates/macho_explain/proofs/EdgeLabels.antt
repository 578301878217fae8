-- The labels of a node, as they are read one after another, and which of them clash.
use Rattle.std.proofs.Common.{◌≡◌, ◌∙◌, ℕ, suc, ◌+◌, ◌-◌, ◌≤◌, ◌<◌, ◌⊎◌, List, [], ◌∷◌, ◌++◌, length, map, Any, Option, Some, None, inl, inr, refl, sym, ap, subst, arith, below_more}
use Rattle.std.specs.Prelude.{IsSomeAnd, slice_get}
use Rattle.std.specs.Option.{option_map}
use Rattle.std.proofs.lemmas.List.{length-append}
use Rattle.std.proofs.lemmas.Option.{none-some, same_Some, slice_get-get_or, slice_get_within}
use Rattle.macho_fields.proofs.Options.{of_some, some_has}
use Rattle.macho_exports.specs.ExportTrie.{edge_at, edges_at}
use Rattle.macho_exports.specs.declared.export_trie.ExportEdge.{ExportEdge}
use Rattle.macho_alike.specs.Exports.{label_of, AnyTwo, Clash, HasClash}
use Rattle.macho_alike.proofs.Labels.{read_all, read_from, read_next, read_over}
use Rattle.macho_explain.specs.Alike.{labels_from, ClashesAt}

-- Lists

at_end : {A : Type 0} (xs : List A) (y : A) (ys : List A) → slice_get ((xs ++ y ∷ []) ++ ys) (length xs) ≡ Some y
at_end [] y ys = refl
at_end (x ∷ xs) y ys = at_end xs y ys

any_at : {A : Type 0} (P : A → Type 0) (xs : List A) → Any P xs → (k : ℕ) × (x : A) × (slice_get xs k ≡ Some x) × P x
any_at P xs (k, x, less, at, has) = (k, x, slice_get-get_or xs k x less ∙ ap Some at, has)

two_at : {A : Type 0} (R : A → A → Type 0) (xs : List A) → AnyTwo R xs
    → (j : ℕ) × (k : ℕ) × (j < k) × (x : A) × (y : A) × (slice_get xs j ≡ Some x) × (slice_get xs k ≡ Some y) × R x y
two_at R [] none = absurd none
two_at R (x ∷ xs) (inl any) = let (k, y, at, has) = any_at (R x) xs any in (0, suc k, omega arith, x, y, refl, at, has)
two_at R (x ∷ xs) (inr two) = let (j, k, less, y, z, here, there, has) = two_at R xs two in (suc j, suc k, omega (arith, less), y, z, here, there, has)

-- Reading

-- some labels were read up to a place, of all that so many edges have
pub record AreRead (trie : List ℕ) (end counter place : ℕ) (labels before : List (List ℕ)) : Type 0 where
  pub rest : read_from (end - counter) trie place before ≡ Some labels
  pub count : length before ≡ counter

reads_on : (trie : List ℕ) (before labels : List (List ℕ)) (edges : Option (List ExportEdge × ℕ))
    → option_map (λ (e : List ExportEdge × ℕ). before ++ map (label_of trie) e.0) edges ≡ Some labels → (rest : List (List ℕ)) × (labels ≡ before ++ rest)
reads_on trie before labels None is = absurd (none-some labels is)
reads_on trie before labels (Some e) is = (map (label_of trie) e.0, same_Some labels (before ++ map (label_of trie) e.0) (sym is))

pub read_none : (trie : List ℕ) (end place : ℕ) (labels : List (List ℕ)) → labels_from end trie place ≡ Some labels → AreRead trie end 0 place labels []
read_none trie end place labels is =
    let all : end - 0 ≡ end = omega arith in
    record { rest = subst (λ (n : ℕ). read_from n trie place [] ≡ Some labels) (sym all) is; count = refl }

module _ (trie : List ℕ) (end counter place : ℕ) (labels before : List (List ℕ)) (are : AreRead trie end counter place labels before) where
  -- all were
  pub read_whole : end ≤ counter → length labels ≤ counter
  read_whole done =
      let same : before ≡ labels = same_Some before labels (sym (read_all end counter trie place before done) ∙ are.rest) in
      let size : length labels ≡ counter = ap length (sym same) ∙ are.count in omega (arith, size)

  -- the next edge does not end in the trie
  pub read_endless : counter < end → edge_at trie place ≡ None → ⊥
  read_endless less none = none-some labels (sym (read_over end counter trie place before less none) ∙ are.rest)

  module _ (edge : ExportEdge) (next : ℕ) (less : counter < end) (is : edge_at trie place ≡ Some (edge, next)) where
    -- it does
    pub read_more : AreRead trie end (counter + 1) next labels (before ++ label_of trie edge ∷ [])
    read_more =
        let size = length-append before (label_of trie edge ∷ []) in
        let count = are.count in
        record { rest = read_next end counter trie place before edge next less is ∙ are.rest; count = omega (arith, size, count) }

    -- and its label is the one with the index
    pub label_read : slice_get labels counter ≡ Some (label_of trie edge)
    label_read =
        let more = read_more in
        let (rest, all) = reads_on trie (before ++ label_of trie edge ∷ []) labels (edges_at (end - (counter + 1)) trie next) more.rest in
        let at = at_end before (label_of trie edge) rest in
        subst (λ (n : ℕ). slice_get labels n ≡ Some (label_of trie edge)) are.count (ap (λ (l : List (List ℕ)). slice_get l (length before)) all ∙ at)

-- Clashes

-- the label with an index is empty, or clashes with an earlier one
abbrev pub IsBadAt : List (List ℕ) → ℕ → Type 0
IsBadAt labels k = IsSomeAnd (slice_get labels k) (λ label. (label ≡ []) ⊎ ((j : ℕ) × (j < k) × ClashesAt labels j label))

-- some are
pub bad_label : (labels : List (List ℕ)) → HasClash labels → (k : ℕ) × (k < length labels) × IsBadAt labels k
bad_label labels (inl any) =
    let (k, label, at, empty) = any_at (λ (l : List ℕ). l ≡ []) labels any in
    (k, slice_get_within labels k label at, of_some (λ l. (l ≡ []) ⊎ ((j : ℕ) × (j < k) × ClashesAt labels j l)) (slice_get labels k) label at (inl empty))
bad_label labels (inr two) =
    let (j, k, less, other, label, here, there, clash) = two_at Clash labels two in (
      k,
      slice_get_within labels k label there,
      of_some (λ l. (l ≡ []) ⊎ ((i : ℕ) × (i < k) × ClashesAt labels i l)) (slice_get labels k) label there (inr (j, less, of_some (λ o. Clash o label) (slice_get labels j) other here clash)),
    )

pub none_bad : (labels : List (List ℕ)) (count : ℕ) → length labels ≤ count → ((k : ℕ) → k < count → ¬ IsBadAt labels k) → ¬ HasClash labels
none_bad labels count all good has = let (k, less, bad) = bad_label labels has in good k (omega (arith, less, all)) bad

-- one label more is not
pub good_more : (labels : List (List ℕ)) (k : ℕ) (label : List ℕ) → slice_get labels k ≡ Some label → ¬ (label ≡ []) → ((j : ℕ) → j < k → ¬ ClashesAt labels j label)
    → ((j : ℕ) → j < k → ¬ IsBadAt labels j) → (j : ℕ) → j < k + 1 → ¬ IsBadAt labels j
good_more labels k label at some apart good =
    below_more (λ j. ¬ IsBadAt labels j) k good (λ bad. elim (some_has (λ l. (l ≡ []) ⊎ ((j : ℕ) × (j < k) × ClashesAt labels j l)) (slice_get labels k) label at bad) [
      | inl empty ↦ some empty
      | inr two ↦ (let (j, less, clash) = two in apart j less clash)
    ])

pub apart_more : (labels : List (List ℕ)) (k : ℕ) (other label : List ℕ) → slice_get labels k ≡ Some other → ¬ Clash other label
    → ((j : ℕ) → j < k → ¬ ClashesAt labels j label) → (j : ℕ) → j < k + 1 → ¬ ClashesAt labels j label
apart_more labels k other label at not apart =
    below_more (λ j. ¬ ClashesAt labels j label) k apart (λ clash. not (some_has (λ o. Clash o label) (slice_get labels k) other at clash))
