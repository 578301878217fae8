-- A search for a byte that is not zero in a part of the bytes, which may be cut at their end.
use Rattle.std.proofs.Common.{◌≡◌, ℕ, suc, zero, ◌+◌, ◌-◌, ◌≤◌, ◌<◌, ◌⊎◌, List, length, drop, slice_index, refl, sym, ap, ◌∙◌, arith, inl, inr, length-drop, length-take}
use Rattle.std.specs.Prelude.{◌≢◌}
use Rattle.std.specs.Int.Bits.{bit_or}
use Rattle.std.proofs.lemmas.Bool.{cases_lt}
use Rattle.std.proofs.lemmas.Nat.{le_or_l, le_or_r}
use Rattle.byteorder.specs.Endian.{little_from}
use Rattle.macho_fields.specs.Field.{part, number}
use Rattle.macho_spans.specs.Span.{Covers}
use Rattle.macho_fields.specs.NonZero.{IsNonZero, HasNonZero}
use Rattle.macho_fields.specs.declared.bytes.Order.TheVariants.{Little}
use Rattle.macho_fields.proofs.ClippedParts.{inside_part, in_part, read_part}

zero_or_more : (n : ℕ) → (n ≡ 0) ⊎ (0 < n)
zero_or_more n = elim (cases_lt 0 n) [ inl more ↦ inr more | inr none ↦ inl (omega arith) ]

-- a number that is not zero has a byte that is not
byte_of_number : (i n : ℕ) (xs : List ℕ) → little_from i n xs ≢ 0 → (k : ℕ) × (i ≤ k) × (k < i + n) × (slice_index xs k ≢ 0)
byte_of_number i zero xs more = absurd (omega (arith, more))
byte_of_number i (suc n) xs more =
    elim (zero_or_more (slice_index xs i)) [
      | inl none ↦ let (k, low, high, is) = byte_of_number (suc i) n xs (λ e. more (omega arith)) in (k, omega arith, omega arith, is)
      | inr some ↦ (i, omega arith, omega arith, λ e. absurd (omega arith))
    ]

-- and one that is zero has none
pub none_of_number : (i n : ℕ) (xs : List ℕ) → little_from i n xs ≡ 0 → (k : ℕ) → i ≤ k → k < i + n → slice_index xs k ≡ 0
none_of_number i zero xs is k low high = absurd (omega arith)
none_of_number i (suc n) xs is k low high =
    elim (cases_lt i k) [
      | inl after ↦ none_of_number (suc i) n xs (omega arith) k (omega arith) (omega arith)
      | inr here ↦ let same : k ≡ i = omega arith in ap (slice_index xs) same ∙ omega arith
    ]

-- what holds before a place and from it on
pub none_joined : (bytes : List ℕ) (start middle end : ℕ) → ¬ HasNonZero bytes start middle → ¬ HasNonZero bytes middle end → ¬ HasNonZero bytes start end
none_joined bytes start middle end before after (z, low, high, is) =
    elim (cases_lt z middle) [ inl early ↦ before (z, low, early, is) | inr late ↦ after (z, late, high, is) ]

-- numbers that are zero when they are joined
pub none_of_four : (a b c d : ℕ) → bit_or (bit_or a b) (bit_or c d) ≡ 0 → (a ≡ 0) × (b ≡ 0) × (c ≡ 0) × (d ≡ 0)
none_of_four a b c d none =
    let left = le_or_l (bit_or a b) (bit_or c d) in
    let right = le_or_r (bit_or a b) (bit_or c d) in
    (omega (arith, le_or_l a b), omega (arith, le_or_r a b), omega (arith, le_or_l c d), omega (arith, le_or_r c d))

module _ (bytes within : List ℕ) (start len : ℕ) (are : within ≡ part start len bytes) where
  -- a byte of the part that is not zero is one of the bytes
  pub nonzero_in_part : (k : ℕ) → IsNonZero within k → Covers start len (start + k) × IsNonZero bytes (start + k)
  nonzero_in_part k (inside, is) =
      let (below, held) = inside_part bytes within start len are k inside in
      ((omega arith, omega arith), (held, λ e. is (read_part bytes within start len are k inside ∙ e)))

  -- a word of the part that is not zero has such a byte
  pub nonzero_in_word : 8 ≤ length within → number Little 8 within 0 ≢ 0 → HasNonZero bytes start (start + 8)
  nonzero_in_word whole word =
      let (k, low, high, is) = byte_of_number 0 8 within word in
      (start + k, omega arith, omega arith, (nonzero_in_part k (omega arith, is)).1)

  -- where no byte of the part before an index is not zero, none of the bytes before its place is
  pub none_in_part : (k : ℕ) → k ≤ length within → ¬ HasNonZero within 0 k → ¬ HasNonZero bytes start (start + k)
  none_in_part k fits none (z, low, high, (inside, is)) =
      let here : z - start < length within = omega arith in
      let at : start + (z - start) ≡ z = omega arith in
      none (z - start, omega arith, omega arith, (here, λ e. is (ap (slice_index bytes) (sym at) ∙ (sym (read_part bytes within start len are (z - start) here) ∙ e))))

  -- where none of the part is, none of the span is
  pub none_in_span : ¬ HasNonZero within 0 (length within) → ¬ HasNonZero bytes start (start + len)
  none_in_span none (z, low, high, (inside, is)) =
      let here = in_part bytes within start len are z low high inside in
      none_in_part (length within) (omega arith) none (z, low, omega arith, (inside, is))

  -- a word of the part that is zero has none
  pub none_in_word : 8 ≤ length within → number Little 8 within 0 ≡ 0 → ¬ HasNonZero bytes start (start + 8)
  none_in_word whole word = none_in_part 8 whole (λ (k, low, high, is). is.1 (none_of_number 0 8 within word k low (omega arith)))

-- what holds at the begin of the bytes from a place on
pub none_in_rest : (bytes : List ℕ) (place size : ℕ) → place + size ≤ length bytes → ¬ HasNonZero (part place (length bytes - place) bytes) 0 size → ¬ HasNonZero bytes place (place + size)
none_in_rest bytes place size inside none =
    let left = length bytes - place in
    none_in_part bytes (part place left bytes) place left refl size (omega (arith, length-take left (drop place bytes), length-drop place bytes)) none

-- and at one block more, where the first ones and the next one have no byte but zeros
pub block_more : (bytes : List ℕ) (index size : ℕ) → index + size ≤ length bytes → ¬ HasNonZero bytes 0 index → ¬ HasNonZero (part index (length bytes - index) bytes) 0 size → ¬ HasNonZero bytes 0 (index + size)
block_more bytes index size inside before next = none_joined bytes 0 index (index + size) before (none_in_rest bytes index size inside next)
