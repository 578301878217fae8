-- A walk over the elements of an image, one after the other.
use Rattle.std.proofs.Common.{◌≡◌, ◌∙◌, ℕ, ◌+◌, ◌<◌, List, [], ◌∷◌, ◌++◌, Some, ap, arith, below_more, length, length-append, refl, slice_get, subst, sym}
use Rattle.std.proofs.lemmas.Option.{same_Some}
use Rattle.macho_rules.proofs.Surveys.{walked, walked_on, walked_all}
use Rattle.macho_strict.specs.declared.elements.Element.{Element}

-- so many elements were passed
pub record IsPassed (all left : List Element) (index : ℕ) : Type 0 where
  pub seen : List Element
  pub reached : all ≡ seen ++ left
  pub at : index ≡ length seen

pub passed_none : (all left : List Element) → left ≡ all → IsPassed all left 0
passed_none all left is = record { seen = []; reached = sym is; at = refl }

get_seam : (xs : List Element) (x : Element) (ys : List Element) → slice_get (xs ++ x ∷ ys) (length xs) ≡ Some x
get_seam [] x ys = refl
get_seam (z ∷ zs) x ys = get_seam zs x ys

module _ (all left : List Element) (index : ℕ) (passed : IsPassed all left index) where
  -- the next one
  module _ (x : Element) (rest : List Element) (next : left ≡ x ∷ rest) where
    pub it_is : slice_get all index ≡ Some x
    it_is =
        ap (λ (these : List Element). slice_get these index) (walked all passed.seen left x rest passed.reached next)
        ∙ (ap (slice_get (passed.seen ++ x ∷ rest)) passed.at ∙ get_seam passed.seen x rest)

    pub is_within : index < length all
    is_within =
        let whole = ap length (walked all passed.seen left x rest passed.reached next) in
        let size = length-append passed.seen (x ∷ rest) in
        let at = passed.at in
        omega (arith, whole, size, at)

    pub passed_more : (after : ℕ) → after ≡ index + 1 → IsPassed all rest after
    passed_more after is = record {
      seen = passed.seen ++ x ∷ [];
      reached = walked_on all passed.seen left x rest passed.reached next;
      at = let size = length-append passed.seen (x ∷ []) in let at = passed.at in omega (arith, size, at, is);
    }

    -- what holds of none of the elements that were passed, and not of this one, holds of none of one more
    pub none_more : (P : ℕ → Element → Type 0) → ((j : ℕ) (e : Element) → j < index → slice_get all j ≡ Some e → ¬ P j e) → ¬ P index x
        → (after : ℕ) → after ≡ index + 1 → (j : ℕ) (e : Element) → j < after → slice_get all j ≡ Some e → ¬ P j e
    none_more P before here after is j e less at =
        let None : ℕ → Type 0 = λ i. (y : Element) → slice_get all i ≡ Some y → ¬ P i y in
        let earlier : (i : ℕ) → i < index → None i = λ i below y there. before i y below there in
        let own : None index = λ y there has. here (subst (P index) (same_Some y x (sym there ∙ it_is)) has) in
        below_more None index earlier own j (omega (arith, less, is)) e at

  -- all were passed
  pub passed_all : left ≡ [] → index ≡ length all
  passed_all ended =
      let same = ap length (walked_all all passed.seen left passed.reached ended) in
      let at = passed.at in
      omega (arith, same, at)
