-- Pages, and how many of them have the bytes before a limit.
use Rattle.std.proofs.Common.{◌≡◌, ℕ, ◌*◌, ◌/◌, ◌^◌, ◌<◌, Bool, true, false, cond, arith, inl, inr}
use Rattle.std.specs.Prelude.{◌==◌}
use Rattle.std.specs.Int.{div_ceil}
use Rattle.std.proofs.lemmas.Bool.{cases_Bool, cases_lt, eqb-true, eqb-false}
use Rattle.std.proofs.lemmas.Grind.{div_ceil_times}
use Rattle.std.proofs.Math.Nat.{div-lt_iff_lt-mul, mul-div_cancel}
use Rattle.std.proofs.lemmas.Nat.{row_fits, pow_pos}
use Rattle.macho_signature.specs.CodeDirectories.{slots_of}
use Rattle.macho_signature.specs.Signed.{page_of}

module _ (limit page : ℕ) (some : 0 < page) where
  -- a place before the limit is in one of them
  below_slots : (place : ℕ) → place < limit → place / page < div_ceil limit page
  below_slots place less = let fits = (div_ceil_times limit page some).0 in (div-lt_iff_lt-mul some).1 (omega (arith, less, fits))

  -- each begins before the limit
  begins : (k : ℕ) → k < div_ceil limit page → k * page < limit
  begins k less =
      let least = (div_ceil_times limit page some).1 in
      let row = row_fits k page (div_ceil limit page) page less (omega arith) in
      omega (arith, least, row)

  slot_place : (k : ℕ) → k < div_ceil limit page → (place : ℕ) × (place < limit) × (place / page ≡ k)
  slot_place k less = (k * page, begins k less, mul-div_cancel k some)

-- of one page with all bytes
one_slot : (limit place : ℕ) → place < limit → 0 < cond (limit == 0) 0 1
one_slot limit place less = elim (cases_Bool (limit == 0)) [
  | inl none ↦ let zero = eqb-true limit 0 none in absurd (omega (arith, less, zero))
  | inr some ↦ rw some (omega arith)
]

one_place : (limit k : ℕ) → k < cond (limit == 0) 0 1 → (place : ℕ) × (place < limit) × (0 ≡ k)
one_place limit k less = elim (cases_Bool (limit == 0)) [
  | inl none ↦ let below = rw none at less in absurd (omega (arith, below))
  | inr some ↦
      let below = rw some at less in
      let first : 0 < limit = elim (cases_lt 0 limit) [ inl has ↦ has | inr empty ↦ absurd (eqb-false limit 0 some (omega (arith, empty))) ] in
      (0, first, omega (arith, below))
]

-- The pages of a size, where 0 says one page with all bytes

-- a place before the limit is in one of them
pub page_in_slots : (size limit place : ℕ) → place < limit → page_of size place < slots_of size limit
page_in_slots size limit place less = by (size == 0)
  where
    by : (one : Bool) → cond one 0 (place / 2 ^ size) < cond one (cond (limit == 0) 0 1) (div_ceil limit (2 ^ size))
    by true = one_slot limit place less
    by false = below_slots limit (2 ^ size) (pow_pos size) place less

-- each of them has a place before the limit
pub slot_has_page : (size limit k : ℕ) → k < slots_of size limit → (place : ℕ) × (place < limit) × (page_of size place ≡ k)
slot_has_page size limit k less = by (size == 0) less
  where
    by : (one : Bool) → k < cond one (cond (limit == 0) 0 1) (div_ceil limit (2 ^ size)) → (place : ℕ) × (place < limit) × (cond one 0 (place / 2 ^ size) ≡ k)
    by true below = one_place limit k below
    by false below = slot_place limit (2 ^ size) (pow_pos size) k below
