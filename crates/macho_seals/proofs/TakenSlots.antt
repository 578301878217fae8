-- The slots of code directories that the first entries of a signature have, noted by their numbers.
use Rattle.std.proofs.Common.{◌≡◌, ◌↔◌, ℕ, zero, suc, ◌+◌, ◌-◌, ◌≤◌, ◌<◌, ◌⊎◌, List, get_or, replicate, Bool, true, false, refl, sym, ap, ◌∙◌, subst, arith, inl, inr}
use Rattle.std.specs.Prelude.{◌==◌, ◌&&◌, nat_lt, nat_le}
use Rattle.std.proofs.lemmas.Bool.{cases_lt, cases_eq, cases_Bool, false≢true, eqb-true, or_cases, and_parts, leb-true, ltb-true, cond-true, cond-false}
use Rattle.std.proofs.lemmas.Grind.{get_or-set_at}
use Rattle.std.proofs.lemmas.List.{length-set, get_or-set_other}
use Rattle.std.proofs.Math.ListN.{set}
use Rattle.macho_seals.specs.Signature.{AreApart, IsRepeated, RepeatedDirectory}
use Rattle.macho_seals.specs.Slots.{slot_number, HasSlot, AreTaken}
use Rattle.macho_signature.specs.Superblobs.{blob_at, entry_offset, is_directory_slot}

-- the number of a slot
pub numbered : (slot : ℕ) → is_directory_slot slot ≡ true
    → ((slot ≡ 0) × (slot_number slot ≡ 0)) ⊎ ((0x1000 ≤ slot) × (slot < 0x1005) × (slot_number slot ≡ slot - 0x1000 + 1))
numbered slot is = elim (cases_Bool (slot == 0)) [
  | inl main ↦ inl (eqb-true slot 0 main, cond-true (slot == 0) 0 (slot - 0x1000 + 1) main)
  | inr other ↦ elim (or_cases (slot == 0) (nat_le 0x1000 slot && nat_lt slot 0x1005) is) [
    | inl wrong ↦ absurd (false≢true (sym other ∙ wrong))
    | inr within ↦
        let parts = and_parts (nat_le 0x1000 slot) (nat_lt slot 0x1005) within in
        inr (leb-true 0x1000 slot parts.0, ltb-true slot 0x1005 parts.1, cond-false (slot == 0) 0 (slot - 0x1000 + 1) other)
  ]
]

pub number_fits : (slot : ℕ) → is_directory_slot slot ≡ true → slot_number slot < 6
number_fits slot is = elim (numbered slot is) [ inl main ↦ (let at = main.1 in omega (arith, at)) | inr (low, high, at) ↦ omega (arith, low, high, at) ]

-- which two slots do not share
pub same_number : (slot other : ℕ) → is_directory_slot slot ≡ true → is_directory_slot other ≡ true → slot_number slot ≡ slot_number other → slot ≡ other
same_number slot other is also same = elim (numbered slot is) [
  | inl (main, at) ↦ elim (numbered other also) [ inl (none, there) ↦ omega (arith, main, none) | inr (low, high, there) ↦ absurd (omega (arith, at, there, same)) ]
  | inr (low, high, at) ↦ elim (numbered other also) [ inl (none, there) ↦ absurd (omega (arith, at, there, same)) | inr (from, to, there) ↦ omega (arith, low, at, from, there, same) ]
]

no_slot : (n : ℕ) → get_or (replicate 6 false) n false ≡ false
no_slot zero = refl
no_slot (suc zero) = refl
no_slot (suc (suc zero)) = refl
no_slot (suc (suc (suc zero))) = refl
no_slot (suc (suc (suc (suc zero)))) = refl
no_slot (suc (suc (suc (suc (suc zero))))) = refl
no_slot (suc (suc (suc (suc (suc (suc n)))))) = refl

-- before the first entry
pub none_taken : (signature : List ℕ) → AreTaken signature 0 (replicate 6 false)
none_taken signature = record {
  size = refl;
  slots = λ slot is. (
    λ has. absurd (false≢true (sym (no_slot (slot_number slot)) ∙ has)),
    λ (j, less, at). absurd (omega (arith, less)),
  );
}

module _ (signature : List ℕ) (k : ℕ) (taken : List Bool) (are : AreTaken signature k taken) where
  -- the entry k has no other slot than this
  only_here : (slot : ℕ) → ¬ ((blob_at signature k).slot ≡ slot) → HasSlot signature (k + 1) slot → HasSlot signature k slot
  only_here slot other (j, less, at) = elim (cases_lt j k) [
    | inl before ↦ (j, before, at)
    | inr late ↦ let same : j ≡ k = omega (arith, less, late) in absurd (other (subst (λ i. (blob_at signature i).slot ≡ slot) same at))
  ]

  further : (slot : ℕ) → HasSlot signature k slot → HasSlot signature (k + 1) slot
  further slot (j, less, at) = (j, omega (arith, less), at)

  -- it is in none
  pub other_kept : is_directory_slot (blob_at signature k).slot ≡ false → AreTaken signature (k + 1) taken
  other_kept other = record {
    size = are.size;
    slots = λ slot is. (
      λ has. further slot ((are.slots slot is).0 has),
      λ has. (are.slots slot is).1 (only_here slot (λ same. false≢true (sym other ∙ (ap is_directory_slot same ∙ is))) has),
    );
  }

  module _ (is_directory : is_directory_slot (blob_at signature k).slot ≡ true) where
    -- it is in one
    pub one_taken : AreTaken signature (k + 1) (set taken (slot_number (blob_at signature k).slot) true)
    one_taken = record { size = length-set taken (slot_number (blob_at signature k).slot) true ∙ are.size; slots = each }
      where
        each : (slot : ℕ) → is_directory_slot slot ≡ true
            → (get_or (set taken (slot_number (blob_at signature k).slot) true) (slot_number slot) false ≡ true) ↔ HasSlot signature (k + 1) slot
        each slot is = elim (cases_eq (slot_number slot) (slot_number (blob_at signature k).slot)) [
          | inl same ↦
              let at : slot ≡ (blob_at signature k).slot = same_number slot (blob_at signature k).slot is is_directory same in
              let fits = number_fits (blob_at signature k).slot is_directory in (
                λ has. (k, omega arith, sym at),
                λ has. get_or-set_at taken (slot_number (blob_at signature k).slot) (slot_number slot) true false same (omega (arith, fits, are.size)),
              )
          | inr other ↦
              let kept = get_or-set_other taken (slot_number (blob_at signature k).slot) (slot_number slot) true false other in (
                λ has. further slot ((are.slots slot is).0 (sym kept ∙ has)),
                λ has. kept ∙ (are.slots slot is).1 (only_here slot (λ at. other (ap slot_number (sym at))) has),
              )
        ]

    -- an earlier one has it
    pub taken_repeats : get_or taken (slot_number (blob_at signature k).slot) false ≡ true → IsRepeated signature k
    taken_repeats has = (is_directory, (are.slots (blob_at signature k).slot is_directory).0 has)

    pub free_not_repeats : get_or taken (slot_number (blob_at signature k).slot) false ≡ false → ¬ IsRepeated signature k
    free_not_repeats free repeats = false≢true (sym free ∙ (are.slots (blob_at signature k).slot is_directory).1 repeats.1)

pub other_not_repeats : (signature : List ℕ) (k : ℕ) → is_directory_slot (blob_at signature k).slot ≡ false → ¬ IsRepeated signature k
other_not_repeats signature k other repeats = false≢true (sym other ∙ repeats.0)

-- where no entry is repeated, no two are in one slot
pub none_repeated : (signature : List ℕ) → ((offset : ℕ) → ¬ RepeatedDirectory signature offset) → AreApart signature
none_repeated signature none j k before less is same = none (entry_offset k) (k, less, refl, (is, (j, before, same)))
