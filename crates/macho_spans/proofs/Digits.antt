-- How many binary digits a number has, beside its half and a greater number.
use Rattle.std.proofs.Common.{◌≡◌, ℕ, ◌+◌, ◌/◌, ◌^◌, ◌≤◌, ◌<◌, arith, subst}
use Rattle.std.specs.Int.Digits.{digits_of}
use Rattle.std.proofs.lemmas.Int.Digits.{length-digits_of_step, length-digits_of-le, number_lt, number_digits_of, all_below_base_digits_of}
use Rattle.macho_spans.specs.Spans.{digits}

pub digits_half : (n : ℕ) → 0 < n → digits n ≡ digits (n / 2) + 1
unfolding digits
digits_half n some = length-digits_of_step 2 n (omega arith) some

pub digits_within : (n k : ℕ) → n < 2 ^ k → digits n ≤ k
unfolding digits
digits_within n k less = length-digits_of-le 2 k n (omega arith) less

-- a number is below 2 to the power of its digits
below_power : (n : ℕ) → n < 2 ^ digits n
unfolding digits
below_power n = subst (λ m. m < 2 ^ digits n) (number_digits_of 2 n (omega arith)) (number_lt 2 (digits_of 2 n) (all_below_base_digits_of 2 n (omega arith)))

pub digits_le : (m n : ℕ) → m ≤ n → digits m ≤ digits n
digits_le m n less = digits_within m (digits n) (let below : n < 2 ^ digits n = below_power n in omega arith)
