-- How many of a list's items with a property are below a number.
use Rattle.std.proofs.Common.{◌≡◌, ℕ, ◌+◌, ◌≤◌, ◌<◌, List, [], ◌∷◌, filter, length, Contains, Bool, true, false, sym, subst, arith, rules, tests, inl, inr}
use Rattle.std.specs.Prelude.{nat_lt}
use Rattle.std.proofs.lemmas.Bool.{cases_Bool, cases_order, lt-ltb}
use Rattle.macho_fields.proofs.Lists.{first_or_later, none_in_nil}

abbrev pub count_below : (ℕ → Bool) → List ℕ → ℕ → ℕ
count_below test xs s = length (filter test (filter (λ x. nat_lt x s) xs))

pub lower : (a b : ℕ) → nat_lt a b ≡ true → a < b
lower a b is = search (rules, tests)

pub not_lower : (a b : ℕ) → b ≤ a → nat_lt a b ≡ false
not_lower a b least = search (rules, tests)

module _ (test : ℕ → Bool) where
  -- an item adds to the count below the greater number if it adds to the other
  step : (x : ℕ) (xs : List ℕ) (s t : ℕ) → s ≤ t → count_below test (x ∷ xs) s + count_below test xs t ≤ count_below test (x ∷ xs) t + count_below test xs s
  step x xs s t least = elim (cases_Bool (nat_lt x s)) [
    | inl below ↦
        let less = lower x s below in
        let above : nat_lt x t ≡ true = lt-ltb x t (omega (arith, less, least)) in
        elim (cases_Bool (test x)) [ inl has ↦ rw below (rw above (rw has (omega arith))) | inr lacks ↦ rw below (rw above (rw lacks (omega arith))) ]
    | inr past ↦ elim (cases_Bool (nat_lt x t)) [
      | inl above ↦ elim (cases_Bool (test x)) [ inl has ↦ rw past (rw above (rw has (omega arith))) | inr lacks ↦ rw past (rw above (rw lacks (omega arith))) ]
      | inr beyond ↦ rw past (rw beyond (omega arith))
    ]
  ]

  no_fewer : (xs : List ℕ) (s t : ℕ) → s ≤ t → count_below test xs s ≤ count_below test xs t
  no_fewer [] s t least = omega arith
  no_fewer (x ∷ xs) s t least = let one = step x xs s t least in let rest = no_fewer xs s t least in omega (arith, one, rest)

  -- an item with the property counts below a greater number
  more : (xs : List ℕ) (s t : ℕ) → Contains xs s → test s ≡ true → s < t → count_below test xs s < count_below test xs t
  more [] s t has is less = absurd (none_in_nil s has)
  more (x ∷ xs) s t has is less = elim (first_or_later x s xs has) [
    | inl same ↦
        let out : nat_lt x s ≡ false = not_lower x s (subst (λ y. s ≤ y) (sym same) (omega arith)) in
        let in_it : nat_lt x t ≡ true = lt-ltb x t (subst (λ y. y < t) (sym same) less) in
        let it : test x ≡ true = subst (λ y. test y ≡ true) (sym same) is in
        let rest = no_fewer xs s t (omega (arith, less)) in
        rw out (rw in_it (rw it (omega (arith, rest))))
    | inr later ↦ let one = step x xs s t (omega (arith, less)) in let rest = more xs s t later is less in omega (arith, one, rest)
  ]

  -- two items with the property and as many below them are one
  pub one_with_count : (xs : List ℕ) (s t : ℕ) → Contains xs s → Contains xs t → test s ≡ true → test t ≡ true → count_below test xs s ≡ count_below test xs t → s ≡ t
  one_with_count xs s t has_s has_t is_s is_t same = elim (cases_order s t) [
    | inl one ↦ one
    | inr (inl less) ↦ absurd (let fewer = more xs s t has_s is_s less in omega (arith, fewer, same))
    | inr (inr greater) ↦ absurd (let fewer = more xs t s has_t is_t greater in omega (arith, fewer, same))
  ]
