-- The names that end at a node, and whether their symbols say something else than its export.
use Rattle.std.proofs.Common.{◌≡◌, ◌≢◌, ◌∙◌, ◌↔◌, ◌⊎◌, ℕ, ◌+◌, ◌≤◌, ◌<◌, List, [], ◌∷◌, length, Bool, true, false, Option, Some, None, IsTrue, refl, sym, ap, subst, arith, inl, inr, length-drop}
use Rattle.std.proofs.lemmas.Bool.{cases_lt, true≢false}
use Rattle.macho_fields.specs.FirstPlace.{IsLeastPlace}
use Rattle.macho_image.proofs.ReadParts.{length-part}
use Rattle.macho_tables.proofs.Places.{least_same, least_joined}
use Rattle.macho_tables.specs.Places.{lesser}
use Rattle.macho_exports.specs.Exports.{IsNotedLeast}
use Rattle.macho_alike.proofs.TrieOrders.{upto_empty}
use Rattle.macho_alike.specs.TrieWalks.{named_at, text_at, IsUpTo, AreSorted, rest_at, AreOfBranch, IsUnlikeExport, EndsUnlike}
use Rattle.macho_alike.specs.declared.names.Named.{Named}
use Rattle.macho_alike.specs.declared.trie.Branch.{Branch}
use Rattle.macho_alike.specs.declared.trie.ImageExport.{ImageExport}

-- a branch with its names up to an index
abbrev pub up_to : Branch → ℕ → Branch
up_to branch index = record { place = branch.place; depth = branch.depth; first = branch.first; end = index }

-- the least place of them
abbrev pub IsLeastUpTo : List ℕ → List Named → Branch → Option ℕ → ImageExport → ℕ → Option ℕ → Type 0
IsLeastUpTo image names branch base export index found =
    IsLeastPlace (EndsUnlike image names (up_to branch index) base export) found

module _ (image : List ℕ) (names : List Named) (sorted : AreSorted image names) (branch : Branch) (are : AreOfBranch image names branch) (base : Option ℕ) (export : ImageExport) where
  abbrev size : ℕ → ℕ
  size k = (named_at names k).name.len

  pub ends_start : IsLeastUpTo image names branch base export branch.first None
  ends_start = λ place (k, (low, less), _, _, _). absurd (omega (arith, low, less))

  module _ (index : ℕ) (low : branch.first ≤ index) (less : index < branch.end) (found : Option ℕ) (least : IsLeastUpTo image names branch base export index found) where
    abbrev here : ℕ
    here = (named_at names index).place

    abbrev IsHere : ℕ → Type 0
    IsHere place = (here ≡ place) × IsUnlikeExport image base export here

    either : size index ≡ branch.depth → (place : ℕ) → (EndsUnlike image names (up_to branch index) base export place ⊎ IsHere place) ↔ EndsUnlike image names (up_to branch (index + 1)) base export place
    either ends place = (
      λ has. elim has [
        | inl (k, (from, before), long, at, unlike) ↦ (k, (from, omega (arith, before)), long, at, unlike)
        | inr (same, unlike) ↦ (index, (low, omega arith), ends, same, subst (IsUnlikeExport image base export) same unlike)
      ],
      λ (k, (from, before), long, at, unlike). elim (cases_lt k index) [
        | inl earlier ↦ inl (k, (from, earlier), long, at, unlike)
        | inr upto ↦
            let same : k ≡ index = omega (arith, before, upto) in
            let at_here : here ≡ place = ap (λ (n : ℕ). (named_at names n).place) (sym same) ∙ at in
            inr (at_here, subst (IsUnlikeExport image base export) (sym at_here) unlike)
      ],
    )

    pub ends_next : size index ≡ branch.depth → (unlike : Bool) (new : Option ℕ) → IsTrue unlike ↔ IsUnlikeExport image base export here → IsNotedLeast unlike here found new → IsLeastUpTo image names branch base export (index + 1) new
    ends_next ends true new says is =
        let this : IsLeastPlace IsHere (Some here) = ((refl, says.0 refl), λ place (same, _). omega (arith, same)) in
        subst (IsLeastUpTo image names branch base export (index + 1)) (sym is) (least_same _ (EndsUnlike image names (up_to branch (index + 1)) base export) (lesser found (Some here)) (either ends) (least_joined (EndsUnlike image names (up_to branch index) base export) IsHere found (Some here) least this))
    ends_next ends false new says is =
        subst (IsLeastUpTo image names branch base export (index + 1)) (sym is) (least_same (EndsUnlike image names (up_to branch index) base export) (EndsUnlike image names (up_to branch (index + 1)) base export) found (λ place. (
          λ has. (either ends place).0 (inl has),
          λ has. elim ((either ends place).1 has) [ inl before ↦ before | inr (_, unlike) ↦ absurd (true≢false (sym (says.1 unlike))) ],
        )) least)

    -- this name goes on, and so does each later one
    pub ends_before : size index ≢ branch.depth → IsLeastPlace (EndsUnlike image names branch base export) found
    ends_before longer =
        least_same (EndsUnlike image names (up_to branch index) base export) (EndsUnlike image names branch base export) found (λ place. (
          λ (k, (from, before), long, at, unlike). (k, (from, omega (arith, before, less)), long, at, unlike),
          λ (k, (from, before), long, at, unlike). elim (cases_lt k index) [
            | inl earlier ↦ (k, (from, earlier), long, at, unlike)
            | inr upto ↦ absurd (longer (none_later k upto before long))
          ],
        )) least
      where
        text_size : (k : ℕ) → k < branch.end → length (text_at image names k) ≡ size k
        text_size k before = let within = are.inside in length-part (named_at names k).name.start (size k) image (sorted.spans k (omega (arith, before, within)))

        nothing : (k : ℕ) → k < branch.end → size k ≡ branch.depth → rest_at image names branch k ≡ []
        nothing k before long = let rest = length-drop branch.depth (text_at image names k) in let all = text_size k before in empty (rest_at image names branch k) (omega (arith, rest, all, long))
          where
            empty : (xs : List ℕ) → length xs ≡ 0 → xs ≡ []
            empty [] none = refl
            empty (x ∷ xs) none = absurd (omega (arith, none))

        none_later : (k : ℕ) → index ≤ k → k < branch.end → size k ≡ branch.depth → size index ≡ branch.depth
        none_later k upto before long =
            let none : rest_at image names branch index ≡ [] = upto_empty (rest_at image names branch index) (subst (IsUpTo (rest_at image names branch index)) (nothing k before long) (are.rising index k low upto before)) in
            let rest = length-drop branch.depth (text_at image names index) in
            let all = text_size index less in
            let no_more : length (rest_at image names branch index) ≡ 0 = ap length none in
            let deep = are.deep index low less in
            omega (arith, rest, all, no_more, deep)
