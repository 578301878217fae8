-- The search for the names of a branch that go on along an edge.
use Rattle.std.proofs.Common.{◌≡◌, ◌∙◌, ℕ, ◌+◌, ◌≤◌, ◌<◌, List, length, take, Bool, true, false, Some, None, refl, sym, ap, arith, inl, inr, length-drop}
use Rattle.std.proofs.lemmas.Bool.{cases_lt, cases_Bool, true≢false}
use Rattle.std.proofs.lemmas.List.{length-take}
use Rattle.macho_image.proofs.ReadParts.{length-part}
use Rattle.macho_exports.specs.declared.export_trie.ExportEdge.{ExportEdge}
use Rattle.macho_alike.proofs.TrieOrders.{upto_take, before_less, between, before_itself}
use Rattle.macho_alike.specs.Exports.{label_of}
use Rattle.macho_alike.specs.TrieWalks.{named_at, text_at, AreSorted, rest_at, IsOfBranch, AreOfBranch, begins_before, IsBound, GoesOn, AreAllAlong}
use Rattle.macho_alike.specs.declared.names.Named.{Named}
use Rattle.macho_alike.specs.declared.trie.Branch.{Branch}

-- The search

-- the index that is looked for is among them
pub record IsSearched (image : List ℕ) (names : List Named) (branch : Branch) (label : List ℕ) (over : Bool) (low high : ℕ) : Type 0 where
  pub from : branch.first ≤ low
  pub upto : low ≤ high
  pub to : high ≤ branch.end
  pub before : (k : ℕ) → branch.first ≤ k → k < low → begins_before image names branch label over k ≡ true
  pub after : (k : ℕ) → high ≤ k → k < branch.end → begins_before image names branch label over k ≡ false

module _ (image : List ℕ) (names : List Named) (branch : Branch) (are : AreOfBranch image names branch) (label : List ℕ) (over : Bool) where
  abbrev IsFrom : ℕ → ℕ → Type 0
  IsFrom low high = IsSearched image names branch label over low high

  abbrev begins : ℕ → Bool
  begins k = begins_before image names branch label over k

  -- each name before one that begins before the label does
  down : (i j : ℕ) → branch.first ≤ i → i ≤ j → j < branch.end → begins j ≡ true → begins i ≡ true
  down i j low upto less so =
      let rest_i = rest_at image names branch i in
      let rest_j = rest_at image names branch j in
      before_less over (take (length label) rest_i) (take (length label) rest_j) label (upto_take (length label) rest_i rest_j (are.rising i j low upto less)) so

  pub searched_start : IsFrom branch.first branch.end
  searched_start = record {
    from = omega arith;
    upto = are.ordered;
    to = omega arith;
    before = λ k low less. absurd (omega (arith, low, less));
    after = λ k high less. absurd (omega (arith, high, less));
  }

  pub searched_up : (low high middle : ℕ) → IsFrom low high → low ≤ middle → middle < high → begins middle ≡ true → IsFrom (middle + 1) high
  searched_up low high middle is above below so = record {
    from = let from = is.from in omega (arith, from, above);
    upto = omega (arith, below);
    to = is.to;
    before = λ k first less. let to = is.to in down k middle first (omega (arith, less)) (omega (arith, below, to)) so;
    after = is.after;
  }

  pub searched_down : (low high middle : ℕ) → IsFrom low high → low ≤ middle → middle < high → begins middle ≡ false → IsFrom low middle
  searched_down low high middle is above below not = record {
    from = is.from;
    upto = above;
    to = let to = is.to in omega (arith, below, to);
    before = is.before;
    after = λ k high less. elim (cases_Bool (begins k)) [
      | inl so ↦ let from = is.from in absurd (true≢false (sym (down middle k (omega (arith, from, above)) high less so) ∙ not))
      | inr is_not ↦ is_not
    ];
  }

  pub searched_end : (low high : ℕ) → IsFrom low high → high ≤ low → IsBound image names branch label over low
  searched_end low high is done = record {
    low = is.from;
    high = let upto = is.upto in let to = is.to in omega (arith, upto, to);
    before = is.before;
    after = λ k from less. is.after k (omega (arith, from, done)) less;
  }

-- What is found

module _ (image trie : List ℕ) (names : List Named) (sorted : AreSorted image names) (parent : Branch) (are : AreOfBranch image names parent) (edge : ExportEdge)
    (inside : edge.label.start + edge.label.len ≤ length trie) (first end : ℕ)
    (is_first : IsBound image names parent (label_of trie edge) false first) (is_end : IsBound image names parent (label_of trie edge) true end) where
  abbrev label : List ℕ
  label = label_of trie edge

  size : length label ≡ edge.label.len
  size = length-part edge.label.start edge.label.len trie inside

  abbrev cut : ℕ → List ℕ
  cut k = take (length label) (rest_at image names parent k)

  goes : (k : ℕ) → first ≤ k → k < end → GoesOn image trie names parent edge k
  goes k from less =
      let low = is_first.low in
      let high = is_end.high in
      ap (λ (n : ℕ). take n (rest_at image names parent k)) (sym size)
      ∙ between (cut k) label (is_first.after k from (omega (arith, less, high))) (is_end.before k (omega (arith, from, low)) less)

  among : (k : ℕ) → IsOfBranch parent k → GoesOn image trie names parent edge k → (first ≤ k) × (k < end)
  among k (low, less) on = (from, to)
    where
      same : cut k ≡ label
      same = ap (λ (n : ℕ). take n (rest_at image names parent k)) size ∙ on

      from : first ≤ k
      from = elim (cases_lt k first) [
        | inl before ↦ absurd (true≢false (sym (is_first.before k low before) ∙ before_itself false (cut k) label same))
        | inr upto ↦ upto
      ]

      to : k < end
      to = elim (cases_lt k end) [
        | inl before ↦ before
        | inr upto ↦ absurd (true≢false (sym (before_itself true (cut k) label same) ∙ is_end.after k upto less))
      ]

  pub along_none : end ≤ first → AreAllAlong image trie names parent edge None
  along_none none k of on = let (from, to) = among k of on in absurd (omega (arith, from, to, none))

  abbrev pub found : Branch
  found = record { place = edge.child; depth = parent.depth + edge.label.len; first = first; end = end }

  pub along_some : first < end → AreAllAlong image trie names parent edge (Some found)
  along_some some = (
    record {
      place = refl;
      depth = refl;
      low = is_first.low;
      some = some;
      high = is_end.high;
      goes_on = goes;
    },
    among,
  )

  -- the depth is at most the length of a name
  pub depth_fits : first < end → parent.depth + edge.label.len ≤ (named_at names first).name.len
  depth_fits some =
      let low = is_first.low in
      let high = is_end.high in
      let within = are.inside in
      let deep = are.deep first low (omega (arith, some, high)) in
      let all = length-part (named_at names first).name.start (named_at names first).name.len image (sorted.spans first (omega (arith, some, high, within))) in
      let rest = length-drop parent.depth (text_at image names first) in
      let few = length-take edge.label.len (rest_at image names parent first) in
      let on : length (take edge.label.len (rest_at image names parent first)) ≡ edge.label.len = ap length (goes first (omega arith) some) ∙ size in
      omega (arith, deep, all, rest, few, on)
