-- The greatest place of an item with P, among items whose places do not fall.
use Rattle.std.proofs.Common.{◌≡◌, ◌↔◌, ℕ, ◌≤◌, ◌<◌, ◌⊎◌, List, [], ◌∷◌, ◌++◌, map, Any, Contains, Option, None, Some, true, sym, subst, arith, inl, inr}
use Rattle.std.specs.Prelude.{IsSomeAnd}
use Rattle.std.proofs.lemmas.List.Elements.{Contains-append_left, Contains-append_right, Contains-append_cases}
use Rattle.macho_fields.proofs.Lists.{any_nil, contains_first, contains_mapped, only_one}
use Rattle.macho_fields.specs.FirstPlace.{IsLeastPlace}
use Rattle.macho_fields.specs.Image.{command_cmd, commands_of}
use Rattle.macho_fields.specs.Segment.{all_segments}
use Rattle.macho_rules.proofs.Searches.{any_of, one_of, mapped_has}
use Rattle.macho_tables.proofs.Places.{least_same}
use Rattle.macho_tables.specs.Segments.{is_writable}
use Rattle.macho_readers.specs.Order.{IsEager, ShiftsBefore, ShiftsAt}

module _ {X : Type 0} (place : X → ℕ) (P : X → Type 0) where
  -- a place is before what was found exactly if an item that was passed is past it
  abbrev pub IsLastIn : List X → Option ℕ → Type 0
  IsLastIn seen found = (p : ℕ) → IsSomeAnd found (λ last. p < last) ↔ Any (λ x. (p < place x) × P x) seen

  pub last_none : IsLastIn [] None
  last_none p = (λ wrong. absurd wrong, λ any. absurd (any_nil (λ x. (p < place x) × P x) any))

  module _ (seen : List X) (x : X) (found : Option ℕ) (last : IsLastIn seen found) where
    pub last_more : ((y : X) → Contains seen y → place y ≤ place x) → P x → IsLastIn (seen ++ x ∷ []) (Some (place x))
    last_more rise here p = (λ before. any_of (λ y. (p < place y) × P y) (seen ++ x ∷ []) x (Contains-append_right seen (x ∷ []) x (contains_first x [])) (before, here), from)
      where
        either : (y : X) → p < place y → Contains seen y ⊎ Contains (x ∷ []) y → p < place x
        either y less (inl has) = let up = rise y has in omega (arith, less, up)
        either y less (inr has) = subst (λ z. p < place z) (sym (only_one x y has)) less

        from : Any (λ y. (p < place y) × P y) (seen ++ x ∷ []) → p < place x
        from any = let (y, has, (less, _)) = one_of (λ y. (p < place y) × P y) (seen ++ x ∷ []) any in either y less (Contains-append_cases seen (x ∷ []) y has)

    pub last_kept : ¬ P x → IsLastIn (seen ++ x ∷ []) found
    last_kept kept p = (
      λ before. let (y, has, here) = one_of (λ y. (p < place y) × P y) seen ((last p).0 before) in any_of (λ y. (p < place y) × P y) (seen ++ x ∷ []) y (Contains-append_left seen (x ∷ []) y has) here,
      from,
    )
      where
        either : (y : X) → (p < place y) × P y → Contains seen y ⊎ Contains (x ∷ []) y → IsSomeAnd found (λ last. p < last)
        either y here (inl has) = (last p).1 (any_of (λ y. (p < place y) × P y) seen y has here)
        either y here (inr has) = absurd (kept (subst P (sym (only_one x y has)) here.1))

        from : Any (λ y. (p < place y) × P y) (seen ++ x ∷ []) → IsSomeAnd found (λ last. p < last)
        from any = let (y, has, here) = one_of (λ y. (p < place y) × P y) (seen ++ x ∷ []) any in either y here (Contains-append_cases seen (x ∷ []) y has)

  -- items that are read at places
  pub last_mapped : (at : ℕ → X) (places : List ℕ) (found : Option ℕ) → IsLastIn (map at places) found → (p : ℕ)
      → IsSomeAnd found (λ last. p < last) ↔ Any (λ q. (p < place (at q)) × P (at q)) places
  last_mapped at places found last p = (to, from)
    where
      to : IsSomeAnd found (λ last. p < last) → Any (λ q. (p < place (at q)) × P (at q)) places
      to before =
          let (x, has, here) = one_of (λ x. (p < place x) × P x) (map at places) ((last p).0 before) in
          let (q, among, is) = mapped_has at places x has in
          any_of (λ q. (p < place (at q)) × P (at q)) places q among (subst (λ (y : X). (p < place y) × P y) (sym is) here)

      from : Any (λ q. (p < place (at q)) × P (at q)) places → IsSomeAnd found (λ last. p < last)
      from any =
          let (q, has, here) = one_of (λ q. (p < place (at q)) × P (at q)) places any in
          (last p).1 (any_of (λ x. (p < place x) × P x) (map at places) (at q) (contains_mapped at places q has) here)

-- what shifts the numbers, by the last places
pub shifts_same : (image : List ℕ) (writable eager found : Option ℕ)
    → ((p : ℕ) → IsSomeAnd writable (λ last. p < last) ↔ Any (λ later. (p < later) × (is_writable image later ≡ true)) (all_segments image))
    → ((p : ℕ) → IsSomeAnd eager (λ last. p < last) ↔ Any (λ later. (p < later) × IsEager (command_cmd image later)) (commands_of image))
    → IsLeastPlace (λ place. Contains (commands_of image) place × ShiftsBefore writable eager image place) found → IsLeastPlace (ShiftsAt image) found
unfolding ShiftsBefore
shifts_same image writable eager found segments libraries =
    least_same (λ place. Contains (commands_of image) place × ShiftsBefore writable eager image place) (ShiftsAt image) found (λ place. (
      λ broken. (
        broken.0,
        elim broken.1 [
          | inl unmapped ↦ inl (unmapped.0, unmapped.1, (segments place).0 unmapped.2)
          | inr late ↦ inr (late.0, (libraries place).0 late.1)
        ],
      ),
      λ broken. (
        broken.0,
        elim broken.1 [
          | inl unmapped ↦ inl (unmapped.0, unmapped.1, (segments place).1 unmapped.2)
          | inr late ↦ inr (late.0, (libraries place).1 late.1)
        ],
      ),
    ))
