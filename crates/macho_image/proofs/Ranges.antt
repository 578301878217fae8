-- The items of a table, a range of them, and the item at an index.
use Rattle.std.proofs.Common.{◌≡◌, ℕ, zero, suc, ◌+◌, ◌-◌, ◌*◌, ◌≤◌, ◌<◌, min, List, [], ◌∷◌, length, map, take, drop, true, Option, Some, None, refl, sym, ap, ap₂, ◌∙◌, arith}
use Rattle.std.specs.Prelude.{nat_le, slice_get}
use Rattle.std.specs.List.{range_with_len}
use Rattle.std.specs.Option.{MatchOption}
use Rattle.std.proofs.lemmas.List.{drop-map, take-map}
use Rattle.std.proofs.lemmas.Bool.{le-leb}
use Rattle.macho_image.specs.Symbol.{items_inside, items_from}
use Rattle.macho_image.specs.Views.{HoldItems}

-- where some remain, the first is the one at the place
pub items-step : (each place left : ℕ) → 0 < left → items_from each place left ≡ place ∷ items_from each (place + each) (left - 1)
items-step each place zero some = absurd (omega arith)
items-step each place (suc left) some = ap (λ n. place ∷ items_from each (place + each) n) (let e : left ≡ suc left - 1 = omega arith in e)

items_counted : (start each i n : ℕ) → map (λ k. start + each * k) (range_with_len i n) ≡ items_from each (start + each * i) n
items_counted start each i zero = refl
items_counted start each i (suc n) =
    let next : start + each * (i + 1) ≡ start + each * i + each = omega arith in
    ap (λ (ys : List ℕ). (start + each * i) ∷ ys) (items_counted start each (i + 1) n ∙ ap (λ p. items_from each p n) next)

pub items_are : (start each count : ℕ) → items_from each start count ≡ map (λ k. start + each * k) (range_with_len 0 count)
items_are start each count = let first : start ≡ start + each * 0 = omega arith in ap (λ p. items_from each p count) first ∙ sym (items_counted start each 0 count)

-- a table that lies inside the image has all its items
pub inside_all : (image : List ℕ) (start each count : ℕ) → start + count * each ≤ length image → items_from each start count ≡ items_inside image start each count
inside_all image start each count fits =
    let inside : nat_le (start + each * count) (length image) ≡ true = le-leb _ _ (omega (arith, fits)) in rw inside (items_are start each count)

-- and its items lie inside the image
pub items_held : (image : List ℕ) (each place left : ℕ) → place + left * each ≤ length image → HoldItems image each (items_from each place left)
items_held image each place zero fits k d less = absurd (omega arith)
items_held image each place (suc left) fits zero d less = omega (arith, fits)
items_held image each place (suc left) fits (suc k) d less = items_held image each (place + each) left (omega (arith, fits)) k d (omega arith)

-- those after the first n
items-drop : (each place left n f : ℕ) → f ≡ min n left → items_from each (place + each * f) (left - f) ≡ drop n (items_from each place left)
items-drop each place left zero f is =
    let none : f ≡ 0 = omega arith in
    let here : place + each * f ≡ place = ap (λ k. place + each * k) none ∙ (let e : place + each * 0 ≡ place = omega arith in e) in
    ap₂ (items_from each) here (let e : left - f ≡ left = omega arith in e)
items-drop each place zero (suc n) f is = ap (items_from each (place + each * f)) (let e : zero - f ≡ 0 = omega arith in e)
items-drop each place (suc left) (suc n) f is =
    let more : f ≡ f - 1 + 1 = omega arith in
    let next : place + each * (f - 1 + 1) ≡ place + each + each * (f - 1) = omega arith in
    ap₂ (items_from each) (ap (λ k. place + each * k) more ∙ next) (let e : suc left - f ≡ left - (f - 1) = omega arith in e) ∙ items-drop each (place + each) left n (f - 1) (omega arith)

-- the first n
items-take : (each place left n m : ℕ) → m ≡ min n left → items_from each place m ≡ take n (items_from each place left)
items-take each place left zero m is = ap (items_from each place) (let e : m ≡ 0 = omega arith in e)
items-take each place zero (suc n) m is = ap (items_from each place) (let e : m ≡ 0 = omega arith in e)
items-take each place (suc left) (suc n) m is =
    items-step each place m (omega arith) ∙ ap (λ ys. place ∷ ys) (items-take each (place + each) left n (m - 1) (omega arith))

pub items-range : (each place left first count f m : ℕ) → f ≡ min first left → m ≡ min count (left - f)
    → items_from each (place + each * f) m ≡ take count (drop first (items_from each place left))
items-range each place left first count f m first_is count_is =
    items-take each (place + each * f) (left - f) count m count_is ∙ ap (take count) (items-drop each place left first f first_is)

-- The items of any list

-- what f reads of a range of them
pub range-map : {X Y : Type 0} (f : X → Y) (xs : List X) (first count : ℕ) → take count (drop first (map f xs)) ≡ map f (take count (drop first xs))
range-map f xs first count = ap (take count) (drop-map f first xs) ∙ take-map f count (drop first xs)

-- the first of a range
head_of_range : {X : Type 0} (xs : List X) (i : ℕ) → slice_get (take 1 (drop i xs)) 0 ≡ slice_get xs i
head_of_range [] zero = refl
head_of_range [] (suc i) = refl
head_of_range (x ∷ xs) zero = refl
head_of_range (x ∷ xs) (suc i) = head_of_range xs i

head_is : {X : Type 0} (old new : List X) (r : Option X) → MatchOption r ((old ≡ []) × (new ≡ [])) (λ x. old ≡ x ∷ new) → r ≡ slice_get old 0
head_is old new None none = ap (λ ys. slice_get ys 0) (sym none.0)
head_is old new (Some x) steps = ap (λ ys. slice_get ys 0) (sym steps)

-- what is first in a range of one item is the item at the index
pub item_at : {X : Type 0} (all : List X) (i : ℕ) (old new : List X) (r : Option X) → old ≡ take 1 (drop i all)
    → MatchOption r ((old ≡ []) × (new ≡ [])) (λ x. old ≡ x ∷ new) → r ≡ slice_get all i
item_at all i old new r is steps =
    head_is old new r steps ∙ (ap (λ ys. slice_get ys 0) is ∙ head_of_range all i)
