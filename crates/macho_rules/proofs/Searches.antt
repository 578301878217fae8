-- A search for the first item that breaks a rule, over items whose places do not fall.
use Rattle.std.proofs.Common.{◌≡◌, ◌↔◌, ℕ, suc, zero, ◌+◌, ◌≤◌, ◌<◌, ◌⊎◌, List, [], ◌∷◌, ◌++◌, map, filter, get_or, length, Any, Bool, Contains, sym, subst, arith, inl, inr, le_refl}
use Rattle.std.specs.Prelude.{⊤}
use Rattle.std.specs.List.{range_with_len}
use Rattle.std.proofs.lemmas.Bool.{cases_Bool, cases_eq}
use Rattle.std.proofs.lemmas.List.Elements.{Contains-append_cases, Contains-append_left, All-contains, All-filter, All-contains_itself, Contains-get_or}
use Rattle.macho_fields.proofs.FirstPlaces.{AreBreaks}
pub use Rattle.macho_fields.proofs.Lists.{any_of}
use Rattle.macho_fields.proofs.Lists.{none_in_nil, contains_first, contains_later, contains_mapped, first_or_later}

-- each item and each later one have R
abbrev pub Ordered : {X : Type 0} → (X → X → Type 0) → List X → Type 0
Ordered R [] = ⊤
Ordered {X = X} R (x ∷ xs) = ((y : X) → Contains xs y → R x y) × Ordered R xs

pub ordered_weaken : {X : Type 0} (R S : X → X → Type 0) → ((x y : X) → R x y → S x y) → (xs : List X) → Ordered R xs → Ordered S xs
ordered_weaken R S to [] order = tt
ordered_weaken R S to (x ∷ xs) (first, rest) = (λ y has. to x y (first y has), ordered_weaken R S to xs rest)

pub ordered_append : {X : Type 0} (R : X → X → Type 0) (xs ys : List X) → Ordered R xs → Ordered R ys → ((x y : X) → Contains xs x → Contains ys y → R x y) → Ordered R (xs ++ ys)
ordered_append R [] ys up down across = down
ordered_append {X = X} R (x ∷ xs) ys (first, up) down across =
    (λ y has. either y (Contains-append_cases xs ys y has), ordered_append R xs ys up down (λ a b has_a has_b. across a b (contains_later x a xs has_a) has_b))
  where
    either : (y : X) → Contains xs y ⊎ Contains ys y → R x y
    either y (inl among) = first y among
    either y (inr after) = across x y (contains_first x xs) after

-- the first items of a list, and those after them
pub ordered_before : {X : Type 0} (R : X → X → Type 0) (xs ys : List X) → Ordered R (xs ++ ys) → Ordered R xs
ordered_before R [] ys up = tt
ordered_before R (x ∷ xs) ys (first, up) = (λ y has. first y (Contains-append_left xs ys y has), ordered_before R xs ys up)

pub ordered_after : {X : Type 0} (R : X → X → Type 0) (xs ys : List X) → Ordered R (xs ++ ys) → Ordered R ys
ordered_after R [] ys up = up
ordered_after R (x ∷ xs) ys (first, up) = ordered_after R xs ys up

pub unfiltered : {X : Type 0} (test : X → Bool) (xs : List X) (y : X) → Contains (filter test xs) y → Contains xs y
unfiltered test xs y has = All-contains (Contains xs) (filter test xs) y (All-filter test (Contains xs) xs (All-contains_itself xs)) has

pub ordered_filter : {X : Type 0} (R : X → X → Type 0) (test : X → Bool) (xs : List X) → Ordered R xs → Ordered R (filter test xs)
ordered_filter R test [] up = tt
ordered_filter R test (x ∷ xs) (first, up) =
    let rest = ordered_filter R test xs up in elim (cases_Bool (test x)) [ inl t ↦ rw t (λ y has. first y (unfiltered test xs y has), rest) | inr f ↦ rw f rest ]

-- of two items of an ordered list the one of the lesser index is the first
pub ordered_at : {X : Type 0} (R : X → X → Type 0) (xs : List X) (d : X) (i j : ℕ) → Ordered R xs → i < j → j < length xs → R (get_or xs i d) (get_or xs j d)
ordered_at R [] d i j order less within = absurd (omega arith)
ordered_at R (x ∷ xs) d i zero order less within = absurd (omega arith)
ordered_at R (x ∷ xs) d zero (suc j) order less within = order.0 (get_or xs j d) (Contains-get_or xs j d (omega arith))
ordered_at R (x ∷ xs) d (suc i) (suc j) order less within = ordered_at R xs d i j order.1 (omega arith) (omega arith)

-- the place of each item is not below the place of an earlier one
abbrev pub Rising : {X : Type 0} → (X → ℕ) → List X → Type 0
Rising place xs = Ordered (λ a b. place a ≤ place b) xs

-- Of all items these are left, and none that was passed has P.
pub record Searching {X : Type 0} (place : X → ℕ) (P : X → Type 0) (all left : List X) : Type 0 where
  pub rising : Rising place left
  pub among : (x : X) → Contains left x → Contains all x
  pub ahead : (x : X) → Contains all x → P x → Contains left x

pub search_all : {X : Type 0} (place : X → ℕ) (P : X → Type 0) (all : List X) → Rising place all → Searching place P all all
search_all place P all rising = record { rising = rising; among = λ x has. has; ahead = λ x has is. has }

module _ {X : Type 0} (place : X → ℕ) (P : X → Type 0) (all left rest : List X) (x : X) (is : left ≡ x ∷ rest) (search : Searching place P all left) where
  pub first_among : Contains all x
  first_among = search.among x (subst (λ ys. Contains ys x) (sym is) (contains_first x rest))

  pub search_next : ¬ P x → Searching place P all rest
  search_next passed =
      let rising : Rising place (x ∷ rest) = subst (Rising place) is search.rising in record {
        rising = rising.1;
        among = λ y has. search.among y (subst (λ ys. Contains ys y) (sym is) (contains_later x y rest has));
        ahead = λ y has broken. later y broken (first_or_later x y rest (subst (λ ys. Contains ys y) is (search.ahead y has broken)));
      }
    where
      later : (y : X) → P y → (x ≡ y) ⊎ Contains rest y → Contains rest y
      later y broken (inl same) = absurd (passed (subst P (sym same) broken))
      later y broken (inr has) = has

  -- an item with P is not before the first that is left
  pub not_before : (y : X) → Contains all y → P y → place x ≤ place y
  not_before y has broken = first_or (first_or_later x y rest (subst (λ ys. Contains ys y) is (search.ahead y has broken)))
    where
      first_or : (x ≡ y) ⊎ Contains rest y → place x ≤ place y
      first_or (inl same) = subst (λ z. place x ≤ place z) same (le_refl (place x))
      first_or (inr later) = (subst (Rising place) is search.rising).0 y later

pub none_left : {X : Type 0} (place : X → ℕ) (P : X → Type 0) (all left : List X) → left ≡ [] → Searching place P all left → (x : X) → Contains all x → ¬ P x
none_left place P all left is search x has broken = none_in_nil x (subst (λ ys. Contains ys x) is (search.ahead x has broken))

-- the first item with P has the least place
pub search_found : {X : Type 0} (breaks : ℕ → Type 0) (place : X → ℕ) (P : X → Type 0) (all left rest : List X) (x : X) → left ≡ x ∷ rest → AreBreaks breaks place P all
    → Searching place P all left → P x → breaks (place x) × ((p : ℕ) → breaks p → place x ≤ p)
search_found {X = X} breaks place P all left rest x is breaking search here =
    (breaking.broken x (first_among place P all left rest x is search) here, λ p broken. least p (breaking.only p broken))
  where
    least : (p : ℕ) → (y : X) × Contains all y × P y × (place y ≡ p) → place x ≤ p
    least p (y, has, broken, at) = subst (λ q. place x ≤ q) at (not_before place P all left rest x is search y has broken)

-- where all were passed, the rule is unbroken
pub search_ended : {X : Type 0} (breaks : ℕ → Type 0) (place : X → ℕ) (P : X → Type 0) (all left : List X) → left ≡ [] → AreBreaks breaks place P all → Searching place P all left
    → (p : ℕ) → ¬ breaks p
search_ended {X = X} breaks place P all left is breaking search p broken = none (breaking.only p broken)
  where
    none : (y : X) × Contains all y × P y × (place y ≡ p) → ⊥
    none (y, has, at, same) = none_left place P all left is search y has at

-- Items of a table, one for each number of a range

pub has_number : {X : Type 0} (f : ℕ → X) (a n : ℕ) (y : X) → Contains (map f (range_with_len a n)) y → (k : ℕ) × (a ≤ k) × (k < a + n) × (f k ≡ y)
has_number f a zero y has = absurd (none_in_nil y has)
has_number {X = X} f a (suc n) y has =
    elim (first_or_later (f a) y (map f (range_with_len (a + 1) n)) has) [ inl same ↦ (a, omega arith, omega arith, same) | inr later ↦ one_on (has_number f (a + 1) n y later) ]
  where
    one_on : (k : ℕ) × (a + 1 ≤ k) × (k < a + 1 + n) × (f k ≡ y) → (k : ℕ) × (a ≤ k) × (k < a + suc n) × (f k ≡ y)
    one_on (k, low, high, at) = (k, omega arith, omega arith, at)

pub number_has : {X : Type 0} (f : ℕ → X) (a n k : ℕ) → a ≤ k → k < a + n → Contains (map f (range_with_len a n)) (f k)
number_has f a zero k low high = absurd (omega arith)
number_has f a (suc n) k low high =
    elim (cases_eq a k) [
      | inl same ↦ subst (λ j. Contains (f a ∷ map f (range_with_len (a + 1) n)) (f j)) same (contains_first (f a) (map f (range_with_len (a + 1) n)))
      | inr other ↦ contains_later (f a) (f k) (map f (range_with_len (a + 1) n)) (number_has f (a + 1) n k (omega arith) (omega arith))
    ]

-- the numbers of a range, each taken to a place by f, do not fall where f does not
pub numbers_rise : (f : ℕ → ℕ) → ((i k : ℕ) → i ≤ k → f i ≤ f k) → (a n : ℕ) → Rising (λ p. p) (map f (range_with_len a n))
numbers_rise f up a zero = tt
numbers_rise f up a (suc n) = (λ y has. above y (has_number f (a + 1) n y has), numbers_rise f up (a + 1) n)
  where
    above : (y : ℕ) → (k : ℕ) × (a + 1 ≤ k) × (k < a + 1 + n) × (f k ≡ y) → f a ≤ y
    above y (k, low, high, at) = subst (λ z. f a ≤ z) at (up a k (omega arith))

-- Items that are read at places

pub mapped_has : {A X : Type 0} (at : A → X) (ps : List A) (x : X) → Contains (map at ps) x → (p : A) × Contains ps p × (at p ≡ x)
mapped_has at [] x has = absurd (none_in_nil x has)
mapped_has {A = A} {X = X} at (q ∷ ps) x has = elim (first_or_later (at q) x (map at ps) has) [ inl same ↦ (q, contains_first q ps, same) | inr later ↦ one_on (mapped_has at ps x later) ]
  where
    one_on : (p : A) × Contains ps p × (at p ≡ x) → (p : A) × Contains (q ∷ ps) p × (at p ≡ x)
    one_on (p, has_p, is) = (p, contains_later q p ps has_p, is)

pub ordered_map : {A X : Type 0} (R : X → X → Type 0) (at : A → X) (ps : List A) → Ordered (λ p q. R (at p) (at q)) ps → Ordered R (map at ps)
ordered_map R at [] order = tt
ordered_map {A = A} {X = X} R at (q ∷ ps) (first, rest) = (λ y has. above y (mapped_has at ps y has), ordered_map R at ps rest)
  where
    above : (y : X) → (p : A) × Contains ps p × (at p ≡ y) → R (at q) y
    above y (p, has, is) = subst (R (at q)) is (first p has)

-- a rule that is broken at those places at which an item has P
pub are_breaks_at : {A X : Type 0} (breaks : ℕ → Type 0) (place : X → ℕ) (P : X → Type 0) (at : A → X) (ps : List A) → ((p : A) → Contains ps p → P (at p) → breaks (place (at p)))
    → ((q : ℕ) → breaks q → (p : A) × Contains ps p × P (at p) × (place (at p) ≡ q)) → AreBreaks breaks place P (map at ps)
are_breaks_at {A = A} {X = X} breaks place P at ps to from = record {
  broken = λ x has here. here_too x here (mapped_has at ps x has);
  only = λ q broken. let (p, has, here, same) = from q broken in (at p, contains_mapped at ps p has, here, same);
}
  where
    here_too : (x : X) → P x → (p : A) × Contains ps p × (at p ≡ x) → breaks (place x)
    here_too x here (p, has, is) = subst (λ z. breaks (place z)) is (to p has (subst P (sym is) here))

-- a rule that is broken where another is
pub are_breaks_as : {X : Type 0} {breaks others : ℕ → Type 0} {place : X → ℕ} {P : X → Type 0} {all : List X} → ((p : ℕ) → breaks p ↔ others p) → AreBreaks others place P all
    → AreBreaks breaks place P all
are_breaks_as {place = place} same are = record { broken = λ x has here. (same (place x)).1 (are.broken x has here); only = λ p broken. are.only p ((same p).0 broken) }

-- whether some item has P, as a search finds it

pub one_of : {X : Type 0} (P : X → Type 0) (xs : List X) → Any P xs → (x : X) × Contains xs x × P x
one_of P xs (k, x, less, at, here) = (x, (k, less, at), here)
