-- Two values are the same, or they are not; and answers that are one.
use Rattle.std.proofs.Common.{◌≡◌, ◌≢◌, ℕ, ◌<◌, ◌⊎◌, List, [], ◌∷◌, length, Contains, Bool, true, false, Option, None, Some, refl, sym, ap, arith, inl, inr}
use Rattle.std.proofs.lemmas.Bool.{cases_eq, cases_lt, cases_order, false≢true}
use Rattle.std.proofs.lemmas.Option.{none-some, same_Some}
use Rattle.macho_fields.specs.Field.{number}
use Rattle.macho_fields.specs.Universal.{IsImage}
use Rattle.macho_fields.specs.declared.bytes.Order.TheVariants.{Little}
use Rattle.macho_fields.specs.declared.header.loader.TheConstants as loader
use Rattle.macho_readers.specs.Models.{Agree, IsEndWith}

-- what is not another value is this one

pub same_some : (found : Option ℕ) (x : ℕ) → ¬ (found ≢ Some x) → found ≡ Some x
same_some None x none = absurd (none (none-some x))
same_some (Some y) x none = elim (cases_eq y x) [ inl same ↦ ap Some same | inr other ↦ absurd (none (λ is. other (same_Some y x is))) ]

pub same_bool : (a b : Bool) → ¬ (a ≢ b) → a ≡ b
same_bool true true none = refl
same_bool true false none = absurd (none (λ is. false≢true (sym is)))
same_bool false true none = absurd (none (λ is. false≢true is))
same_bool false false none = refl

pub same_number : (a b : ℕ) → ¬ (a ≢ b) → a ≡ b
same_number a b none = elim (cases_eq a b) [ inl same ↦ same | inr other ↦ absurd (none other) ]

cases_list : (xs ys : List ℕ) → (xs ≡ ys) ⊎ (xs ≢ ys)
cases_list [] [] = inl refl
cases_list [] (y ∷ ys) = inr (λ is. cc)
cases_list (x ∷ xs) [] = inr (λ is. cc)
cases_list (x ∷ xs) (y ∷ ys) = elim (cases_eq x y) [
  | inr other ↦ inr (λ is. let first : x ≡ y = cc in other first)
  | inl same ↦ elim (cases_list xs ys) [ inl rest ↦ inl (cc) | inr other ↦ inr (λ is. let rest : xs ≡ ys = cc in other rest) ]
]

pub same_list : (xs ys : List ℕ) → ¬ (xs ≢ ys) → xs ≡ ys
same_list xs ys none = elim (cases_list xs ys) [ inl same ↦ same | inr other ↦ absurd (none other) ]

pub is_image : (bytes : List ℕ) → ¬ (¬ IsImage bytes) → IsImage bytes
is_image bytes none = elim (cases_lt (length bytes) 4) [
  | inl short ↦ absurd (none (λ image. let long = image.0 in omega (arith, short, long)))
  | inr long ↦ elim (cases_eq (number Little 4 bytes 0) loader.MH_MAGIC_64) [ inl same ↦ (long, same) | inr other ↦ absurd (none (λ image. other image.1)) ]
]

-- Answers that are places with P, where no two places have it

module _ (places : List ℕ) (P : ℕ → Type 0) where
  pub ended : (place : ℕ) → IsEndWith places P place → Contains places place × P place
  ended place (inl first) = (first.0, first.1)
  ended place (inr last) = (last.0, last.1)

  -- a later place does not have it
  module _ (alone : (a b : ℕ) → Contains places a → Contains places b → P a → P b → a < b → ⊥) where
    pub one_place : (a b : ℕ) → Contains places a × P a → Contains places b × P b → a ≡ b
    one_place a b (in_a, has_a) (in_b, has_b) = elim (cases_order a b) [
      | inl same ↦ same
      | inr (inl less) ↦ absurd (alone a b in_a in_b has_a has_b less)
      | inr (inr less) ↦ absurd (alone b a in_b in_a has_b has_a less)
    ]

    pub one_end : Agree (IsEndWith places P)
    one_end a b is_a is_b = one_place a b (ended a is_a) (ended b is_b)
