-- The slots that readers know, their magic numbers and their numbers.
use Rattle.std.proofs.Common.{◌≡◌, ◌↔◌, ℕ, ◌+◌, ◌-◌, ◌≤◌, ◌<◌, ◌⊎◌, Bool, true, false, Option, None, Some, refl, sym, arith, inl, inr}
use Rattle.std.specs.Prelude.{◌==◌, ◌&&◌, nat_lt, nat_le, if◌then◌else◌}
use Rattle.std.proofs.lemmas.Bool.{and_parts, or_cases, eqb-true, leb-true, ltb-true}
use Rattle.std.proofs.lemmas.Option.{same_Some, none-some}
use Rattle.macho_identity.specs.Slots.{slot_number, is_alternate_slot, is_late_slot, is_known_magic, IsKnownMagic}
use Rattle.macho_signature.specs.Superblobs.{is_directory_slot}

-- Of a choice that is there
pub step : (test : Bool) (x : ℕ) (rest : Option ℕ) (n : ℕ) → (if test then Some x else rest) ≡ Some n → ((test ≡ true) × (n ≡ x)) ⊎ (rest ≡ Some n)
step true x rest n is = inl (refl, sym (same_Some x n is))
step false x rest n is = inr is

-- the magic numbers that are known
abbrev IsOneOf : ℕ → Type 0
IsOneOf magic =
    (magic ≡ 0xfade0c02) ⊎ ((magic ≡ 0xfade0c01) ⊎ ((magic ≡ 0xfade7171) ⊎ ((magic ≡ 0xfade7172) ⊎ ((magic ≡ 0xfade8181) ⊎ (magic ≡ 0xfade0b01)))))

one_of_known : (magic : ℕ) → IsKnownMagic magic → IsOneOf magic
one_of_known magic (slot, is) = elim (step (is_directory_slot slot) 0xfade0c02 _ magic is) [
  | inl at ↦ inl at.1
  | inr is1 ↦ elim (step (slot == 2) 0xfade0c01 _ magic is1) [
    | inl at ↦ inr (inl at.1)
    | inr is2 ↦ elim (step (slot == 5) 0xfade7171 _ magic is2) [
      | inl at ↦ inr (inr (inl at.1))
      | inr is3 ↦ elim (step (slot == 7) 0xfade7172 _ magic is3) [
        | inl at ↦ inr (inr (inr (inl at.1)))
        | inr is4 ↦ elim (step (nat_le 8 slot && nat_le slot 11) 0xfade8181 _ magic is4) [
          | inl at ↦ inr (inr (inr (inr (inl at.1))))
          | inr is5 ↦ elim (step (slot == 0x10000) 0xfade0b01 None magic is5) [
            | inl at ↦ inr (inr (inr (inr (inr at.1))))
            | inr wrong ↦ absurd (none-some magic wrong)
          ]
        ]
      ]
    ]
  ]
]

known_of_one : (magic : ℕ) → IsOneOf magic → IsKnownMagic magic
known_of_one magic (inl is) = (0, rw is refl)
known_of_one magic (inr (inl is)) = (2, rw is refl)
known_of_one magic (inr (inr (inl is))) = (5, rw is refl)
known_of_one magic (inr (inr (inr (inl is)))) = (7, rw is refl)
known_of_one magic (inr (inr (inr (inr (inl is))))) = (8, rw is refl)
known_of_one magic (inr (inr (inr (inr (inr is))))) = (0x10000, rw is refl)

one_of_test : (magic : ℕ) → is_known_magic magic ≡ true → IsOneOf magic
one_of_test magic is = elim (or_cases (magic == 0xfade0c02) _ is) [
  | inl at ↦ inl (eqb-true magic 0xfade0c02 at)
  | inr is1 ↦ elim (or_cases (magic == 0xfade0c01) _ is1) [
    | inl at ↦ inr (inl (eqb-true magic 0xfade0c01 at))
    | inr is2 ↦ elim (or_cases (magic == 0xfade7171) _ is2) [
      | inl at ↦ inr (inr (inl (eqb-true magic 0xfade7171 at)))
      | inr is3 ↦ elim (or_cases (magic == 0xfade7172) _ is3) [
        | inl at ↦ inr (inr (inr (inl (eqb-true magic 0xfade7172 at))))
        | inr is4 ↦ elim (or_cases (magic == 0xfade8181) _ is4) [
          | inl at ↦ inr (inr (inr (inr (inl (eqb-true magic 0xfade8181 at)))))
          | inr at ↦ inr (inr (inr (inr (inr (eqb-true magic 0xfade0b01 at)))))
        ]
      ]
    ]
  ]
]

test_of_one : (magic : ℕ) → IsOneOf magic → is_known_magic magic ≡ true
test_of_one magic (inl is) = rw is refl
test_of_one magic (inr (inl is)) = rw is refl
test_of_one magic (inr (inr (inl is))) = rw is refl
test_of_one magic (inr (inr (inr (inl is)))) = rw is refl
test_of_one magic (inr (inr (inr (inr (inl is))))) = rw is refl
test_of_one magic (inr (inr (inr (inr (inr is))))) = rw is refl

pub known_test : (magic : ℕ) → (is_known_magic magic ≡ true) ↔ IsKnownMagic magic
known_test magic = (λ is. known_of_one magic (one_of_test magic is), λ is. test_of_one magic (one_of_known magic is))

-- the slots that have a number
abbrev IsNumbered : ℕ → ℕ → Type 0
IsNumbered slot n =
    ((slot ≤ 11) × (n ≡ slot))
    ⊎ (((0x1000 ≤ slot) × (slot < 0x1005) × (n ≡ 12 + (slot - 0x1000))) ⊎ ((0x10000 ≤ slot) × (slot ≤ 0x10002) × (n ≡ 17 + (slot - 0x10000))))

numbered : (slot n : ℕ) → slot_number slot ≡ Some n → IsNumbered slot n
numbered slot n is = elim (step (nat_le slot 11) slot _ n is) [
  | inl (low, at) ↦ inl (leb-true slot 11 low, at)
  | inr is1 ↦ elim (step (is_alternate_slot slot) (12 + (slot - 0x1000)) _ n is1) [
    | inl (within, at) ↦ let parts = and_parts (nat_le 0x1000 slot) (nat_lt slot 0x1005) within in inr (inl (leb-true 0x1000 slot parts.0, ltb-true slot 0x1005 parts.1, at))
    | inr is2 ↦ elim (step (is_late_slot slot) (17 + (slot - 0x10000)) None n is2) [
      | inl (within, at) ↦ let parts = and_parts (nat_le 0x10000 slot) (nat_le slot 0x10002) within in inr (inr (leb-true 0x10000 slot parts.0, leb-true slot 0x10002 parts.1, at))
      | inr wrong ↦ absurd (none-some n wrong)
    ]
  ]
]

-- two slots do not share one
pub same_number : (slot other n : ℕ) → slot_number slot ≡ Some n → slot_number other ≡ Some n → slot ≡ other
same_number slot other n is also = by (numbered slot n is) (numbered other n also)
  where
    by : IsNumbered slot n → IsNumbered other n → slot ≡ other
    by (inl (high, at)) (inl (to, there)) = omega (arith, at, there)
    by (inl (high, at)) (inr (inl (from, to, there))) = absurd (omega (arith, high, at, from, there))
    by (inl (high, at)) (inr (inr (from, to, there))) = absurd (omega (arith, high, at, from, there))
    by (inr (inl (low, high, at))) (inl (to, there)) = absurd (omega (arith, low, at, to, there))
    by (inr (inl (low, high, at))) (inr (inl (from, to, there))) = omega (arith, low, at, from, there)
    by (inr (inl (low, high, at))) (inr (inr (from, to, there))) = absurd (omega (arith, low, high, at, from, there))
    by (inr (inr (low, high, at))) (inl (to, there)) = absurd (omega (arith, low, at, to, there))
    by (inr (inr (low, high, at))) (inr (inl (from, to, there))) = absurd (omega (arith, low, at, from, to, there))
    by (inr (inr (low, high, at))) (inr (inr (from, to, there))) = omega (arith, low, at, from, there)
