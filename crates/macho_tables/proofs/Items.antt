-- Items that are numbered from 0 on, each at a place that is not before the place of an earlier item.
use Rattle.std.proofs.Common.{◌≡◌, ℕ, suc, ◌+◌, ◌*◌, ◌≤◌, ◌<◌, ◌⊎◌, Option, None, Some, refl, sym, subst, arith, inl, inr}
use Rattle.std.specs.Option.{option_map}
use Rattle.std.proofs.lemmas.Bool.{cases_lt}
use Rattle.std.proofs.lemmas.Nat.{mul-le, row_fits}
use Rattle.macho_fields.specs.FirstPlace.{IsNoted, IsLeastPlace}
use Rattle.macho_tables.specs.Items.{AtItem, IsFirstItem}

-- the first of them with P is at the least place
pub first_item : (place_of : ℕ → ℕ) → ((j k : ℕ) → j ≤ k → place_of j ≤ place_of k) → (count : ℕ) (P : ℕ → Type 0) (found : Option ℕ) → IsFirstItem count P found
    → IsLeastPlace (AtItem place_of count P) (option_map place_of found)
first_item place_of rise count P None none = λ place (k, less, at, has). none k less has
first_item place_of rise count P (Some first) (inside, here, none) = (
  (first, inside, refl, here),
  λ place (k, less, at, has). elim (cases_lt k first) [
    | inl before ↦ absurd (none k before has)
    | inr after ↦ let up = rise first k after in omega (arith, up, at)
  ],
)

-- one item more: its place is noted if it has P
pub noted_item : (place_of : ℕ → ℕ) → ((j k : ℕ) → j ≤ k → place_of j ≤ place_of k) → (P : ℕ → Type 0) (count : ℕ) (broken : Type 0) (old new : Option ℕ)
    → (broken → P count) → (P count → broken) → IsNoted broken (place_of count) old new → IsLeastPlace (AtItem place_of count P) old → IsLeastPlace (AtItem place_of (suc count) P) new
noted_item place_of rise P count broken (Some first) new to from noted ((k, less, at, has), least) =
    let same : new ≡ Some first = elim noted [ inl is ↦ is.1 | inr is ↦ is.1 ] in
    subst (IsLeastPlace (AtItem place_of (suc count) P)) (sym same) (
      (k, omega (arith, less), at, has),
      λ place (j, below, is, here). elim (cases_lt j count) [
        | inl before ↦ least place (j, before, is, here)
        | inr late ↦ let up = rise k j (omega (arith, less, late)) in omega (arith, at, is, up)
      ],
    )
noted_item place_of rise P count broken None new to from (inl (here, is)) none =
    subst (IsLeastPlace (AtItem place_of (suc count) P)) (sym is) (
      (count, omega arith, refl, to here),
      λ place (j, below, at, has). elim (cases_lt j count) [
        | inl before ↦ absurd (none place (j, before, at, has))
        | inr late ↦ let up = rise count j late in omega (arith, at, up)
      ],
    )
noted_item place_of rise P count broken None new to from (inr (kept, is)) none =
    subst (IsLeastPlace (AtItem place_of (suc count) P)) (sym is)
    (λ place (j, below, at, has). elim (cases_lt j count) [
      | inl before ↦ none place (j, before, at, has)
      | inr late ↦ let same : j ≡ count = omega (arith, below, late) in kept (from (subst P same has))
    ])

-- a rule that is not broken unless Q holds
pub least_where : (Q : Type 0) (P : ℕ → Type 0) (found : Option ℕ) → Q → IsLeastPlace P found → IsLeastPlace (λ place. Q × P place) found
least_where Q P None holds none = λ place (_, broken). none place broken
least_where Q P (Some first) holds (here, least) = ((holds, here), λ place (_, broken). least place broken)

-- a rule of two parts, where one is not broken
pub least_other : (P Q : ℕ → Type 0) (found : Option ℕ) → ((place : ℕ) → ¬ P place) → IsLeastPlace Q found → IsLeastPlace (λ place. P place ⊎ Q place) found
least_other P Q None none least = λ place broken. elim broken [ inl one ↦ none place one | inr other ↦ least place other ]
least_other P Q (Some first) none (here, least) = (inr here, λ place broken. elim broken [ inl one ↦ absurd (none place one) | inr other ↦ least place other ])

-- items of one size, one past the other
pub items_rise : (start size : ℕ) (j k : ℕ) → j ≤ k → start + j * size ≤ start + k * size
items_rise start size j k up = let less = mul-le j size k size up (omega arith) in omega (arith, less)

-- and the last byte of one of them is before the end of all
pub item_inside : (start size count k : ℕ) → k < count → start + k * size + size ≤ start + count * size
item_inside start size count k less = let fits = row_fits k size count size less (omega arith) in omega (arith, fits)
