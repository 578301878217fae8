-- Rounding to pages, which have one of two sizes.
use Rattle.std.proofs.Common.{◌≡◌, ℕ, ◌+◌, ◌-◌, ◌%◌, ◌≤◌, ◌<◌, ◌==◌, arith, inl, inr}
use Rattle.std.proofs.lemmas.Bool.{cases_Bool}
use Rattle.macho_fields.specs.declared.header.machine.TheConstants as machine
use Rattle.macho_readers.specs.PageModels.{page_floor, page_ceiling}
use Rattle.macho_readers.specs.Pages.{page_size, page_end}
use Rattle.macho_readers.specs.declared.pages.TheConstants as pages

module _ (cputype : ℕ) where
  abbrev size : ℕ
  size = page_size cputype

  of_size : (P : ℕ → Type 0) → P pages.SMALL_PAGE → P pages.LARGE_PAGE → P size
  of_size P small large = elim (cases_Bool (cputype == machine.CPU_TYPE_X86_64)) [ inl t ↦ rw t small | inr f ↦ rw f large ]

  pub zero_even : 0 % size ≡ 0
  zero_even = of_size (λ p. 0 % p ≡ 0) (omega arith) (omega arith)

  pub sum_even : (m n : ℕ) → m % size ≡ 0 → n % size ≡ 0 → (m + n) % size ≡ 0
  sum_even m n = of_size (λ p. m % p ≡ 0 → n % p ≡ 0 → (m + n) % p ≡ 0) (λ a b. omega (arith, a, b)) (λ a b. omega (arith, a, b))

  pub floor_even : (n : ℕ) → n % size ≡ 0 → page_floor size n ≡ n
  floor_even n = of_size (λ p. n % p ≡ 0 → page_floor p n ≡ n) (λ even. omega (arith, even)) (λ even. omega (arith, even))

  pub ceiling_above : (n : ℕ) → n ≤ page_ceiling size n
  ceiling_above n = of_size (λ p. n ≤ page_ceiling p n) (omega arith) (omega arith)

  pub ceiling_least : (n end : ℕ) → end % size ≡ 0 → n ≤ end → page_ceiling size n ≤ end
  ceiling_least n end = of_size (λ p. end % p ≡ 0 → n ≤ end → page_ceiling p n ≤ end) (λ even most. omega (arith, even, most)) (λ even most. omega (arith, even, most))

  pub ceiling_rises : (m n : ℕ) → m ≤ n → page_ceiling size m ≤ page_ceiling size n
  ceiling_rises m n = of_size (λ p. m ≤ n → page_ceiling p m ≤ page_ceiling p n) (λ most. omega (arith, most)) (λ most. omega (arith, most))

  pub ceiling_from : (start n : ℕ) → start % size ≡ 0 → page_ceiling size (start + n) ≡ start + page_ceiling size n
  ceiling_from start n = of_size (λ p. start % p ≡ 0 → page_ceiling p (start + n) ≡ start + page_ceiling p n) (λ even. omega (arith, even)) (λ even. omega (arith, even))

  pub ceiling_none : page_ceiling size 0 ≡ 0
  ceiling_none = of_size (λ p. page_ceiling p 0 ≡ 0) (omega arith) (omega arith)

  -- the end of the last page of so many bytes
  pub ceiling_last : (n : ℕ) → 0 < n → page_ceiling size n ≡ page_end size (n - 1)
  ceiling_last n = of_size (λ p. 0 < n → page_ceiling p n ≡ page_end p (n - 1)) (λ some. omega (arith, some)) (λ some. omega (arith, some))
