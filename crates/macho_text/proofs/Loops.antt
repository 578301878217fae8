-- The texts of the items of a loop.
use Rattle.std.proofs.Common.{◌≡◌, ℕ, zero, suc, ◌+◌, List, [], ◌∷◌, ◌++◌, ◌≤◌, length, map, drop, Option, Some, None, IsSomeAnd, inl, inr, refl, ap, ◌∙◌, subst, arith}
use Rattle.std.specs.Prelude.{slice_get, filter, not, Bool, if◌then◌else◌}
use Rattle.std.specs.List.{enumerate_from}
use Rattle.std.proofs.lemmas.Option.{same_Some}
use Rattle.std.proofs.lemmas.Bool.{cases_Bool}
use Rattle.macho_text.specs.Stream.{joined}

-- items that are read at places
texts_at : {A X : Type 0} (f : X → List ℕ) (at : A → X) (places : List A) → map f (map at places) ≡ map (λ p. f (at p)) places
texts_at f at [] = refl
texts_at f at (p ∷ places) = ap (λ texts. f (at p) ∷ texts) (texts_at f at places)

pub texts_placed : {A X : Type 0} (f : X → List ℕ) (at : A → X) (places : List A) {items : List X} → items ≡ map at places
    → joined (map f items) ≡ joined (map (λ p. f (at p)) places)
texts_placed f at places is = ap joined (ap (map f) is ∙ texts_at f at places)

-- items that have no text if they have the mark
unmarked : {A : Type 0} (mark : A → Bool) (g : A → List ℕ) (xs : List A)
    → joined (map (λ x. if mark x then [] else g x) xs) ≡ joined (map g (filter (λ x. not (mark x)) xs))
unfolding joined
unmarked mark g [] = refl
unmarked mark g (x ∷ xs) = elim (cases_Bool (mark x)) [ inl t ↦ rw t (unmarked mark g xs) | inr f ↦ rw f (ap (λ rest. g x ++ rest) (unmarked mark g xs)) ]

-- the items of a list, each with its index
indexed_from : {X : Type 0} (a k : ℕ) (xs : List X) (x : X) → slice_get xs k ≡ Some x → drop k (enumerate_from a xs) ≡ (a + k, x) ∷ drop (suc k) (enumerate_from a xs)
indexed_from a k [] x e = absurd (cc)
indexed_from {X = X} a zero (y ∷ ys) x e =
    let sum : a ≡ a + 0 = omega arith in
    subst (λ n. (a, y) ∷ enumerate_from (a + 1) ys ≡ (n, x) ∷ enumerate_from (a + 1) ys) sum (ap (λ z. (a, z) ∷ enumerate_from (a + 1) ys) (same_Some y x e))
indexed_from {X = X} a (suc k) (y ∷ ys) x e =
    let sum : a + 1 + k ≡ a + suc k = omega arith in
    subst (λ n. drop k (enumerate_from (a + 1) ys) ≡ (n, x) ∷ drop (suc k) (enumerate_from (a + 1) ys)) sum (indexed_from (a + 1) k ys x e)

pub indexed : {X : Type 0} (k : ℕ) (xs : List X) (x : X) → slice_get xs k ≡ Some x → drop k (enumerate_from 0 xs) ≡ (k, x) ∷ drop (k + 1) (enumerate_from 0 xs)
indexed {X = X} k xs x e =
    let zero_plus : 0 + k ≡ k = omega arith in
    let plus_one : suc k ≡ k + 1 = omega arith in
    subst (λ n. drop k (enumerate_from 0 xs) ≡ (n, x) ∷ drop (k + 1) (enumerate_from 0 xs)) zero_plus
    (subst (λ n. drop k (enumerate_from 0 xs) ≡ (0 + k, x) ∷ drop n (enumerate_from 0 xs)) plus_one (indexed_from 0 k xs x e))

pub found : {X : Type 0} (P : X → Type 0) (o : Option X) → IsSomeAnd o P → (x : X) × (o ≡ Some x) × P x
found P (Some x) h = (x, refl, h)
found P None h = absurd h

pub all_passed : {X : Type 0} (a k : ℕ) (xs : List X) → length xs ≤ k → drop k (enumerate_from a xs) ≡ []
all_passed a zero [] h = refl
all_passed a (suc k) [] h = refl
all_passed a zero (x ∷ xs) h = absurd (omega arith)
all_passed a (suc k) (x ∷ xs) h = all_passed (a + 1) k xs (omega arith)

-- items that are read at places, which are made of others
pub texts_within : {A B X : Type 0} (f : X → List ℕ) (at : B → X) (into : A → B) (places : List A) {items : List X} → items ≡ map at (map into places)
    → joined (map f items) ≡ joined (map (λ p. f (at (into p))) places)
texts_within f at into places is = texts_placed f at _ is ∙ ap joined (texts_at (λ q. f (at q)) into places)

same_texts : {A : Type 0} (f g : A → List ℕ) → ((p : A) → f p ≡ g p) → (places : List A) → map f places ≡ map g places
same_texts f g same [] = refl
same_texts f g same (p ∷ places) = rw (same p) (ap (λ texts. g p ∷ texts) (same_texts f g same places))

-- items that are read at places, and have no text if they have the mark
pub texts_unmarked : {A X : Type 0} (f : X → List ℕ) (at : A → X) (mark : A → Bool) (g : A → List ℕ) (places : List A) {items : List X} → items ≡ map at places
    → ((p : A) → f (at p) ≡ (if mark p then [] else g p)) → joined (map f items) ≡ joined (map g (filter (λ p. not (mark p)) places))
texts_unmarked f at mark g places is same =
    texts_placed f at _ is ∙ ap joined (same_texts (λ p. f (at p)) (λ p. if mark p then [] else g p) same places) ∙ unmarked mark g places
