-- A number's digits.
use Rattle.std.proofs.Common.{◌≡◌, ℕ, ◌+◌, ◌-◌, ◌*◌, ◌/◌, ◌%◌, ◌^◌, ◌<◌, ◌≤◌, ◌==◌, ◌≢◌, if◌then◌else◌, max, zero, suc, false, true, codes, get_or, List, [], ◌∷◌, ◌++◌, length, drop, arith, refl, ap, ◌∙◌, sym, inl, inr, append_assoc, append-nil, lit≤}
use Rattle.std.proofs.Math.Arith.{mod-mul}
use Rattle.std.proofs.lemmas.Nat.{div-mul-add, mod-mul-add, pow-add}
use Rattle.std.proofs.Math.Nat.{le-div_iff_mul-le, div-div-eq-div-mul, mod-lt, div-lt_iff_lt-mul, pow-suc, pow-zero, mul-le-mul_right, one-le-pow, pow-le-pow_right}
use Rattle.std.proofs.lemmas.Bool.{agree_below_at, cases_Bool, cases_eq}
use Rattle.std.proofs.lemmas.Grind.{common_steps}
use Rattle.std.proofs.lemmas.List.{drop-set, drop_all, length-append}
use Rattle.std.specs.Prelude.{◌⊎◌, slice_set}
use Rattle.std.specs.Fmt.{digits, digits_onto, digit_glyph}

-- the last k digits of n, with zeros before the first
pub last_digits : ℕ → ℕ → ℕ → List ℕ
last_digits zero base n = []
last_digits (suc k) base n = last_digits k base (n / base) ++ digit_glyph false (n % base) ∷ []

-- how many digits n has, counted up to a limit
digit_count : ℕ → ℕ → ℕ → ℕ
digit_count zero base n = 0
digit_count (suc most) base n = if n / base == 0 then 1 else suc (digit_count most base (n / base))

onto_last : (most base n : ℕ) (after : List ℕ) → digits_onto most base false n after ≡ last_digits (digit_count most base n) base n ++ after
unfolding last_digits digit_count
onto_last zero base n after = refl
onto_last (suc most) base n after = elim (cases_Bool (n / base == 0)) [
  | inl t ↦ rw t refl
  | inr f ↦ rw f (onto_last most base (n / base) (digit_glyph false (n % base) ∷ after)
      ∙ sym (append_assoc (last_digits (digit_count most base (n / base)) base (n / base)) (digit_glyph false (n % base) ∷ []) after))
]

length_last : (k base n : ℕ) → length (last_digits k base n) ≡ k
unfolding last_digits
length_last zero base n = refl
length_last (suc k) base n = omega (arith, length_last k base (n / base), length-append (last_digits k base (n / base)) (digit_glyph false (n % base) ∷ []))

digits_last : (base n : ℕ) → digits base false n ≡ last_digits (digit_count 64 base n) base n
unfolding digits
digits_last base n = onto_last 64 base n [] ∙ append-nil (last_digits (digit_count 64 base n) base n)

length_digits : (base n : ℕ) → length (digits base false n) ≡ digit_count 64 base n
length_digits base n = ap length (digits_last base n) ∙ length_last (digit_count 64 base n) base n

-- before a digit is put, all are left
pub all_digits : (base n : ℕ) (places : List ℕ) → length places ≡ length (digits base false n)
    → digits base false n ≡ last_digits (length places) base n ++ drop (length places) places
all_digits base n places e =
    rw (drop_all (length places) places (omega arith), e ∙ length_digits base n) (digits_last base n ∙ sym (append-nil (last_digits (digit_count 64 base n) base n)))

-- the last two digits of a number
high_digit : (base n : ℕ) → 0 < base → n % (base * base) / base ≡ n / base % base
high_digit base n some = rw (mod-mul n some some) (div-mul-add (n / base % base) base (n % base) (mod-lt n some))

low_digit : (base n : ℕ) → 0 < base → n % (base * base) % base ≡ n % base
low_digit base n some = rw (mod-mul n some some) (mod-mul-add (n / base % base) base (n % base) (mod-lt n some))

-- two more digits
pub two_before : (k start base n : ℕ) (after : List ℕ) → start ≡ suc (suc k) → 0 < base
    → last_digits start base n ++ after
    ≡ last_digits k base (n / (base * base)) ++ digit_glyph false (n % (base * base) / base) ∷ digit_glyph false (n % (base * base) % base) ∷ after
unfolding last_digits
two_before k start base n after e some =
    let high = digit_glyph false (n / base % base) in
    let low = digit_glyph false (n % base) in
    let front = last_digits k base (n / base / base) in
    rw (e, high_digit base n some, low_digit base n some, sym (div-div-eq-div-mul n base base))
    (append_assoc (front ++ high ∷ []) (low ∷ []) after ∙ append_assoc front (high ∷ []) (low ∷ after))

-- digits at a place
pub two_set : (start high low : ℕ) (places : List ℕ) → 2 ≤ start → start ≤ length places
    → drop (start - 2) (slice_set (slice_set places (start - 2 + 1) low) (start - 2) high) ≡ high ∷ low ∷ drop start places
two_set start high low places two within =
    let all : length (slice_set places (start - 2 + 1) low) ≡ length places = grind (arith, common_steps) in
    let end : start - 2 + 1 + 1 ≡ start = omega arith in
    drop-set (slice_set places (start - 2 + 1) low) (start - 2) high (omega arith)
    ∙ ap (λ l. high ∷ l) (drop-set places (start - 2 + 1) low (omega arith) ∙ ap (λ n. low ∷ drop n places) end)

pub first_set : (start base n : ℕ) (places whole : List ℕ) → start ≡ 1 → 0 < length places → whole ≡ last_digits start base n ++ drop start places
    → slice_set places 0 (digit_glyph false (n % base)) ≡ whole
unfolding last_digits
first_set start base n [] whole e some is = absurd (omega arith)
first_set start base n (first ∷ places) whole e some is = sym (rw e at is)

pub pow-one : (base : ℕ) → base ^ 1 ≡ base
pow-one base = pow-suc base 0 ∙ rw (pow-zero base) (omega arith)

power_more : (k i : ℕ) → k ≡ i + 1 → k ≡ suc i
power_more k i e = omega arith

-- a digit less is left of a number below a power of the base
pub less_left : (k i base n : ℕ) → k ≡ i + 1 → 0 < base → n < base ^ k → n / base < base ^ i
less_left k i base n e some h =
    let more : base ^ k ≡ base ^ i * base = rw (power_more k i e) (pow-suc base i) in
    (div-lt_iff_lt-mul {k = base} {x = n} {y = base ^ i} some).1 (rw more at h)

lower_left : (k base n : ℕ) → 0 < base → k ≡ (k - 1) + 1 → ((k ≡ 0) ⊎ (base ^ k ≤ n)) → base ^ (k - 1) ≤ n / base
lower_left k base n some e low =
    let more : base ^ k ≡ base ^ (k - 1) * base = ap (λ j. base ^ j) (power_more k (k - 1) e) ∙ pow-suc base (k - 1) in
    elim low [ inl none ↦ absurd (omega arith) | inr power ↦ (le-div_iff_mul-le {k = base} {x = base ^ (k - 1)} {y = n} some).1 (rw more at power) ]

-- the first power that is not above a number below the base
no_power : (k base n : ℕ) → 0 < base → n < base → ((k ≡ 0) ⊎ (base ^ k ≤ n)) → k ≡ 0
no_power zero base n some small low = refl
no_power (suc k) base n some small low =
    let power : base ^ suc k ≤ n = elim low [ inl none ↦ absurd (omega arith) | inr power ↦ power ] in
    let one : 1 ≤ base ^ k = one-le-pow k base some in
    let more : 1 * base ≤ base ^ k * base = mul-le-mul_right base one in
    absurd (omega (arith, pow-suc base k))

next_power : (k base n : ℕ) → base ≤ n → n < base ^ (k + 1) → k ≡ (k - 1) + 1
next_power zero base n large high = let one : base ^ 1 ≡ base = pow-one base in absurd (omega arith)
next_power (suc k) base n large high = omega arith

not_zero : (n : ℕ) → n ≢ 0 → (n == 0) ≡ false
not_zero n some = grind arith

-- a number with a power of the base at or below it, and the next power above it
counted : (most k base n : ℕ) → 1 < base → k < most → ((k ≡ 0) ⊎ (base ^ k ≤ n)) → n < base ^ (k + 1) → digit_count most base n ≡ k + 1
unfolding digit_count
counted zero k base n more within low high = absurd (omega arith)
counted (suc most) k base n more within low high = elim (cases_eq (n / base) 0) [
  | inl none ↦
      let one : n < 1 * base = (div-lt_iff_lt-mul {k = base} {x = n} {y = 1} (omega arith)).0 (omega arith) in
      let small : n < base = omega arith in
      let first : k ≡ 0 = no_power k base n (omega arith) small low in
      rw (digit_count, none, first) refl
  | inr some ↦
      let once = (le-div_iff_mul-le {k = base} {x = 1} {y = n} (omega arith)).0 (omega arith) in
      let large : base ≤ n = omega arith in
      let next : k ≡ (k - 1) + 1 = next_power k base n large high in
      let fewer : n / base < base ^ ((k - 1) + 1) = less_left (k + 1) ((k - 1) + 1) base n (omega arith) (omega arith) high in
      let below = lower_left k base n (omega arith) next low in
      rw (not_zero (n / base) some) (omega (arith, counted most (k - 1) base (n / base) more (omega arith) (inr below) fewer))
]

pub count_is : (k base n : ℕ) → 1 < base → k < 64 → ((k ≡ 0) ⊎ (base ^ k ≤ n)) → n < base ^ (k + 1) → length (digits base false n) ≡ k + 1
count_is k base n more within low high = length_digits base n ∙ counted 64 k base n more within low high

sixteen : (k : ℕ) → 16 ^ k ≡ 2 ^ (4 * k)
sixteen zero = pow-zero 16 ∙ sym (pow-zero 2)
sixteen (suc k) =
    let more : 4 * suc k ≡ 4 * k + 4 = omega arith in
    pow-suc 16 k ∙ ap (λ v. v * 16) (sixteen k) ∙ sym (ap (λ v. 2 ^ v) more ∙ pow-add 2 (4 * k) 4)

-- each digit in base 16 has four bits
pub hex_count : (log n some : ℕ) → some ≡ max n 1 → 2 ^ log ≤ some → some < 2 * 2 ^ log → log < 64 → length (digits 16 false n) ≡ log / 4 + 1
hex_count log n some e low high within =
    let power : 2 ^ (4 * (log / 4)) ≤ 2 ^ log = pow-le-pow_right {n = 2} (lit≤ tt) {i = 4 * (log / 4)} {j = log} (omega arith) in
    let next : 2 ^ (log + 1) ≤ 2 ^ (4 * (log / 4 + 1)) = pow-le-pow_right {n = 2} (lit≤ tt) {i = log + 1} {j = 4 * (log / 4 + 1)} (omega arith) in
    let twice : 2 ^ (log + 1) ≡ 2 ^ log * 2 = rw (power_more (log + 1) log refl) (pow-suc 2 log) in
    let first = sixteen (log / 4) in
    let second = sixteen (log / 4 + 1) in
    let above : n < 16 ^ (log / 4 + 1) = rw second (omega arith) in
    elim (cases_eq n 0) [
      | inl none ↦
          let none_set : log ≡ 0 = no_power log 2 1 (lit≤ tt) (lit≤ tt) (inr (omega arith)) in
          count_is (log / 4) 16 n (lit≤ tt) (omega arith) (inl (omega arith)) above
      | inr more ↦ count_is (log / 4) 16 n (lit≤ tt) (omega arith) (inr (rw first (omega arith))) above
    ]

same_number : (a b : ℕ) → (a == b) ≡ true → a ≡ b
same_number a b h = grind arith

-- the powers of 10 with an exponent below 20
unfoldable pub powers_of_ten : List ℕ
powers_of_ten = 1 ∷ 10 ∷ 100 ∷ 1000 ∷ 10000 ∷ 100000 ∷ 1000000 ∷ 10000000 ∷ 100000000 ∷ 1000000000 ∷ 10000000000 ∷ 100000000000 ∷ 1000000000000 ∷ 10000000000000
    ∷ 100000000000000 ∷ 1000000000000000 ∷ 10000000000000000 ∷ 100000000000000000 ∷ 1000000000000000000 ∷ 10000000000000000000 ∷ []

pub power_of_ten : (k : ℕ) → k < 20 → get_or powers_of_ten k 0 ≡ 10 ^ k
unfolding powers_of_ten
power_of_ten k h = same_number _ _ (agree_below_at (λ k. get_or powers_of_ten k 0 == 10 ^ k) (λ _. true) 20 k refl h)

-- a number of so many digits is below the next power, or the next is above 2^64
pub decimal_count : (count n : ℕ) → 0 < count → count ≤ 20 → ((count - 1 ≡ 0) ⊎ (10 ^ (count - 1) ≤ n)) → n < 10 ^ count → count ≡ length (digits 10 false n)
decimal_count count n some most low high =
    let all : count - 1 + 1 ≡ count = omega arith in
    sym (count_is (count - 1) 10 n (lit≤ tt) (omega arith) low (rw all high) ∙ all)

pair_is : (a b x y : ℕ) → a ≡ x → b ≡ y → a ∷ b ∷ [] ≡ x ∷ y ∷ []
pair_is a b x y e f = rw (e, f) refl

-- the two digits of each number below 100, one after the other
unfoldable pub decimal_pairs : List ℕ
decimal_pairs = codes "00010203040506070809101112131415161718192021222324252627282930313233343536373839404142434445464748495051525354555657585960616263646566676869707172737475767778798081828384858687888990919293949596979899"

pub decimal_pair : (v : ℕ) → v < 100 → get_or decimal_pairs (2 * v) 0 ∷ get_or decimal_pairs (2 * v + 1) 0 ∷ [] ≡ digit_glyph false (v / 10) ∷ digit_glyph false (v % 10) ∷ []
unfolding decimal_pairs
decimal_pair v h =
    let high : get_or decimal_pairs (2 * v) 0 ≡ digit_glyph false (v / 10) =
    same_number _ _ (agree_below_at (λ k. get_or decimal_pairs (2 * k) 0 == digit_glyph false (k / 10)) (λ _. true) 100 v refl h) in
    let low : get_or decimal_pairs (2 * v + 1) 0 ≡ digit_glyph false (v % 10) =
    same_number _ _ (agree_below_at (λ k. get_or decimal_pairs (2 * k + 1) 0 == digit_glyph false (k % 10)) (λ _. true) 100 v refl h) in
    pair_is _ _ _ _ high low

-- the two digits of each number below 256 in base 16, one after the other
unfoldable pub hex_pairs : List ℕ
hex_pairs = codes "000102030405060708090a0b0c0d0e0f101112131415161718191a1b1c1d1e1f202122232425262728292a2b2c2d2e2f303132333435363738393a3b3c3d3e3f404142434445464748494a4b4c4d4e4f505152535455565758595a5b5c5d5e5f606162636465666768696a6b6c6d6e6f707172737475767778797a7b7c7d7e7f808182838485868788898a8b8c8d8e8f909192939495969798999a9b9c9d9e9fa0a1a2a3a4a5a6a7a8a9aaabacadaeafb0b1b2b3b4b5b6b7b8b9babbbcbdbebfc0c1c2c3c4c5c6c7c8c9cacbcccdcecfd0d1d2d3d4d5d6d7d8d9dadbdcdddedfe0e1e2e3e4e5e6e7e8e9eaebecedeeeff0f1f2f3f4f5f6f7f8f9fafbfcfdfeff"

pub hex_pair : (v : ℕ) → v < 256 → get_or hex_pairs (2 * v) 0 ∷ get_or hex_pairs (2 * v + 1) 0 ∷ [] ≡ digit_glyph false (v / 16) ∷ digit_glyph false (v % 16) ∷ []
unfolding hex_pairs
hex_pair v h =
    let high : get_or hex_pairs (2 * v) 0 ≡ digit_glyph false (v / 16) =
    same_number _ _ (agree_below_at (λ k. get_or hex_pairs (2 * k) 0 == digit_glyph false (k / 16)) (λ _. true) 256 v refl h) in
    let low : get_or hex_pairs (2 * v + 1) 0 ≡ digit_glyph false (v % 16) =
    same_number _ _ (agree_below_at (λ k. get_or hex_pairs (2 * k + 1) 0 == digit_glyph false (k % 16)) (λ _. true) 256 v refl h) in
    pair_is _ _ _ _ high low
