-- The pages of a code directory lie before its limit, and each place before that is in one of them.
use Rattle.std.proofs.Common.{◌≡◌, ℕ, ◌+◌, ◌-◌, ◌*◌, ◌/◌, ◌%◌, ◌^◌, ◌≤◌, ◌<◌, false, cond, sym, ap, ◌∙◌, arith, inl, inr, le_refl}
use Rattle.std.specs.Prelude.{◌==◌}
use Rattle.std.proofs.lemmas.Bool.{cases_Bool, cond-false, eqb-true}
use Rattle.std.proofs.lemmas.Nat.{pow_pos, mul-le, div-add-mod', div-mul-add}
use Rattle.macho_seals.specs.Pages.{page_span}
use Rattle.macho_signature.specs.CodeDirectories.{slots_of}
use Rattle.macho_signature.specs.Signed.{page_of}
use Rattle.macho_signature.proofs.Pages.{slot_has_page}
use Rattle.macho_spans.specs.Span.{end_of, Holds}

-- a page begins before the limit
pub page_begins : (size limit k : ℕ) → (size == 0) ≡ false → k < slots_of size limit → k * 2 ^ size < limit
page_begins size limit k other less =
    let (place, below, found) = slot_has_page size limit k less in
    let is : place / 2 ^ size ≡ k = sym (cond-false (size == 0) 0 (place / 2 ^ size) other) ∙ found in
    let rows = div-add-mod' place (2 ^ size) in
    let same : place / 2 ^ size * 2 ^ size ≡ k * 2 ^ size = ap (λ q. q * 2 ^ size) is in
    omega (arith, rows, same, below)

-- and ends there or before
pub page_inside : (size limit k : ℕ) → k < slots_of size limit → end_of (page_span size limit k) ≤ limit
page_inside size limit k less = elim (cases_Bool (size == 0)) [
  | inl one ↦ rw one (omega arith)
  | inr other ↦ let begins = page_begins size limit k other less in rw other (omega (arith, begins))
]

-- a later one does not begin before it
pub page_rises : (size limit k j : ℕ) → k < j → (page_span size limit k).start ≤ (page_span size limit j).start
page_rises size limit k j before = elim (cases_Bool (size == 0)) [
  | inl one ↦ rw one (omega arith)
  | inr other ↦ rw other (mul-le k (2 ^ size) j (2 ^ size) (omega (arith, before)) (le_refl (2 ^ size)))
]

-- a place is in its page
pub page_holds : (size limit place : ℕ) → place < limit → Holds (page_span size limit (page_of size place)) place
page_holds size limit place less = elim (cases_Bool (size == 0)) [
  | inl one ↦ rw one (omega arith, omega (arith, less))
  | inr other ↦
      let rows = div-add-mod' place (2 ^ size) in
      let some = pow_pos size in
      let rest : place % 2 ^ size < 2 ^ size = omega (arith, some) in
      rw other (omega (arith, rows), omega (arith, rows, rest, less))
]

-- and in no other
first_slot : (limit k place : ℕ) → place < limit → k < cond (limit == 0) 0 1 → k ≡ 0
first_slot limit k place some less = elim (cases_Bool (limit == 0)) [
  | inl none ↦ let zero = eqb-true limit 0 none in absurd (omega (arith, some, zero))
  | inr has ↦ let below = rw has at less in omega (arith, below)
]

pub page_only : (size limit k place : ℕ) → place < limit → k < slots_of size limit → Holds (page_span size limit k) place → k ≡ page_of size place
page_only size limit k place some less held = elim (cases_Bool (size == 0)) [
  | inl one ↦ let first = first_slot limit k place some (rw one at less) in rw one first
  | inr other ↦
      let (low, high) = rw other at held in
      let split : k * 2 ^ size + (place - k * 2 ^ size) ≡ place = omega (arith, low) in
      rw other (sym (div-mul-add k (2 ^ size) (place - k * 2 ^ size) (omega (arith, low, high))) ∙ ap (λ n. n / 2 ^ size) split)
]
