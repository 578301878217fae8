-- Reading a number: its bytes from the first one on.
use Rattle.std.proofs.Common.{◌≡◌, ℕ, ◌+◌, ◌*◌, ◌%◌, ◌^◌, ◌<◌, ◌≤◌, List, [], ◌∷◌, ◌++◌, length, take, drop, get_or, slice_get, length-drop, below_more, add-one, inl, inr, refl, ◌∙◌, arith, ℤ, pos, negsuc, FitsSigned, w64, lit<, ltb-true, leb-true, true, false}
use Rattle.std.specs.Prelude.{nat_lt, nat_le, ◌&&◌, Option, Some, None, Bool, cond}
use Rattle.std.specs.List.{position_or_len}
use Rattle.std.proofs.lemmas.Bool.{cases_lt, lt-ltb, le-leb, le-ltb}
use Rattle.std.proofs.lemmas.List.Sums.{position_or_len_is, passes_at_first}
use Rattle.std.proofs.Math.Nat.{pow-succ', pow-le-pow_right}
use Rattle.std.proofs.lemmas.Nat.{mod_below, mul-le}
use Rattle.std.proofs.lemmas.Option.{slice_get_within, get_or_from_slice_get, slice_get-get_or}
use Rattle.std.proofs.lemmas.List.{get_or-drop, take_more, length-take, length-take-le}
use Rattle.macho_tables.specs.Numbers.{number_bytes, digits_value, twos_complement, signed_value, unsigned_at, signed_at, fits_i64}

-- so many bytes of a number were read, and more follow: what their digits are, and the scale of the next
pub record IsReading (stream : List ℕ) (index value scale : ℕ) : Type 0 where
  pub inside : index ≤ length stream
  pub more : (k : ℕ) → k < index → 0x80 ≤ get_or stream k 0
  pub digits : value ≡ digits_value (take index stream)
  pub power : scale ≡ 0x80 ^ index

-- the byte is the last of a number
abbrev ends : ℕ → Bool
ends byte = nat_lt byte 0x80

pub digits_more : (bytes : List ℕ) (byte : ℕ)
    → digits_value (bytes ++ byte ∷ []) ≡ digits_value bytes + 0x80 ^ length bytes * (byte % 0x80)
digits_more [] byte = omega arith
digits_more (b ∷ bytes) byte =
    let e = digits_more bytes byte in
    let power = pow-succ' 0x80 (length bytes) in rw power (omega (arith, e))

pub digits_below : (bytes : List ℕ) → digits_value bytes < 0x80 ^ length bytes
digits_below [] = lit< tt
digits_below (b ∷ bytes) =
    let e = digits_below bytes in
    let power = pow-succ' 0x80 (length bytes) in
    let low = mod_below b 0x80 (lit< tt) in omega (arith, e, power, low)

-- where the first byte that ends a number is at an index, the number has the bytes up to it
found_at : (stream : List ℕ) (index : ℕ) → position_or_len ends stream ≡ index → index < length stream → index < 10
    → number_bytes stream ≡ Some (take (index + 1) stream)
unfolding number_bytes
found_at stream index at inside few =
    rw at (rw (le-leb (index + 1) (length stream) (omega arith), le-leb (index + 1) 10 (omega arith)) refl)

neither : (a b : Bool) (given : Option (List ℕ)) → (a ≡ true → b ≡ true → ⊥) → cond (a && b) given None ≡ None
neither true true given never = absurd (never refl refl)
neither true false given never = refl
neither false b given never = refl

missed : (stream : List ℕ) → ((position_or_len ends stream < length stream) × (position_or_len ends stream < 10) → ⊥)
    → number_bytes stream ≡ None
unfolding number_bytes
missed stream none =
    neither _ _ _ (λ inside few.
    let a : position_or_len ends stream + 1 ≤ length stream = leb-true _ _ inside in
    let b : position_or_len ends stream + 1 ≤ 10 = leb-true _ _ few in none (omega arith, omega arith))

-- a byte ends the number
pub ended : (stream : List ℕ) (index : ℕ) → index < length stream → index < 10
    → ((k : ℕ) → k < index → 0x80 ≤ get_or stream k 0) → get_or stream index 0 < 0x80
    → number_bytes stream ≡ Some (take (index + 1) stream)
ended stream index inside few more here =
    let at : position_or_len ends stream ≡ index =
    position_or_len_is ends stream index 0 (omega arith) (λ k below. le-ltb _ _ (more k below)) (λ _. lt-ltb _ _ here) in
    found_at stream index at inside few

-- the bytes are used up
pub cut : (stream : List ℕ) (index : ℕ) → length stream ≤ index
    → ((k : ℕ) → k < index → 0x80 ≤ get_or stream k 0) → number_bytes stream ≡ None
cut stream index past more =
    missed stream (λ (inside, few).
    let here : get_or stream (position_or_len ends stream) 0 < 0x80 = ltb-true _ _ (passes_at_first ends stream 0 inside) in
    let there = more (position_or_len ends stream) (omega arith) in omega arith)

-- ten bytes are not the whole number
pub endless : (stream : List ℕ) → ((k : ℕ) → k < 10 → 0x80 ≤ get_or stream k 0) → number_bytes stream ≡ None
endless stream more =
    missed stream (λ (inside, few).
    let here : get_or stream (position_or_len ends stream) 0 < 0x80 = ltb-true _ _ (passes_at_first ends stream 0 inside) in
    let there = more (position_or_len ends stream) few in omega arith)

-- the place of the byte with an index among those from a place on
pub byte_there : (bytes : List ℕ) (place index byte : ℕ) → slice_get bytes (place + index) ≡ Some byte
    → (index < length (drop place bytes)) × (get_or (drop place bytes) index 0 ≡ byte)
byte_there bytes place index byte there =
    let inside = slice_get_within bytes (place + index) byte there in (
      simp length-drop (omega arith),
      get_or-drop place bytes index 0 ∙ get_or_from_slice_get bytes (place + index) byte 0 there,
    )

pub byte_missing : (bytes : List ℕ) (place index : ℕ) → slice_get bytes (place + index) ≡ None
    → length (drop place bytes) ≤ index
byte_missing bytes place index none =
    elim (cases_lt (place + index) (length bytes)) [
      | inl inside ↦ let some = slice_get-get_or bytes (place + index) 0 inside in absurd (cc)
      | inr past ↦ simp length-drop (omega arith)
    ]

-- nothing is read yet
pub reading_none : (stream : List ℕ) → IsReading stream 0 0 1
reading_none stream = record {
  inside = omega arith;
  more = λ k below. absurd (omega arith);
  digits = refl;
  power = refl;
}

-- one more byte of the number is read
pub digits_next : (stream : List ℕ) (index value scale byte : ℕ) → IsReading stream index value scale
    → index < length stream → get_or stream index 0 ≡ byte
    → (value + byte % 0x80 * scale ≡ digits_value (take (index + 1) stream))
    × (scale * 0x80 ≡ 0x80 ^ (index + 1)) × (length (take (index + 1) stream) ≡ index + 1)
digits_next stream index value scale byte reading inside is =
    let more = take_more stream index 0 inside in
    let count = length-take-le index stream reading.inside in
    let all = length-take-le (index + 1) stream (omega arith) in
    let digits = digits_more (take index stream) (get_or stream index 0) in
    let power = pow-succ' 0x80 index in (
      rw (more, digits, count, is, ← reading.digits, ← reading.power) (omega arith),
      rw (add-one, power, ← reading.power) (omega arith),
      all,
    )

pub reading_more : (stream : List ℕ) (index value scale byte : ℕ) → IsReading stream index value scale
    → index < length stream → get_or stream index 0 ≡ byte → 0x80 ≤ byte
    → IsReading stream (index + 1) (value + byte % 0x80 * scale) (scale * 0x80)
reading_more stream index value scale byte reading inside is more =
    let next = digits_next stream index value scale byte reading inside is in record {
      inside = omega arith;
      more = below_more _ _ reading.more (rw is more);
      digits = next.0;
      power = next.1;
    }

-- of ten bytes the numbers stay below 2^70
pub reading_fits : (stream : List ℕ) (index value scale : ℕ) → IsReading stream index value scale → index < 10
    → (value < scale) × (scale ≤ 2 ^ 63)
reading_fits stream index value scale reading few =
    let below = digits_below (take index stream) in
    let count = length-take-le index stream reading.inside in
    let most : 0x80 ^ index ≤ 0x80 ^ 9 = pow-le-pow_right (lit< tt) {j = 9} (omega arith) in (
      rw (reading.digits, reading.power) (rw count at below),
      rw reading.power most,
    )

-- a digit times a scale
pub digit_fits : (byte scale : ℕ) → scale ≤ 2 ^ 63 → byte % 0x80 * scale ≤ 2 ^ 70
digit_fits byte scale fits =
    let low = mod_below byte 0x80 (lit< tt) in
    mul-le (byte % 0x80) scale 0x80 (2 ^ 63) (omega arith) fits

both : (a b : Bool) (given bytes : List ℕ) → cond (a && b) (Some given) None ≡ Some bytes → (b ≡ true) × (given ≡ bytes)
both true true given bytes is = (refl, cc)
both true false given bytes is = absurd (cc)
both false b given bytes is = absurd (cc)

-- a number has ten bytes at most
pub number_short : (stream bytes : List ℕ) → number_bytes stream ≡ Some bytes → length bytes ≤ 10
unfolding number_bytes
number_short stream bytes is =
    let size = position_or_len ends stream + 1 in
    let (few, given) = both _ (nat_le size 10) (take size stream) bytes is in
    let short : size ≤ 10 = leb-true _ _ few in
    let count = length-take size stream in rw (← given, count) (omega arith)

pub unsigned_none : (stream : List ℕ) (place : ℕ) → number_bytes (drop place stream) ≡ None → unsigned_at stream place ≡ None
unfolding unsigned_at
unsigned_none stream place none = rw none refl

pub unsigned_some : (stream : List ℕ) (place : ℕ) (bytes : List ℕ) → number_bytes (drop place stream) ≡ Some bytes
    → digits_value bytes < 2 ^ 64 → unsigned_at stream place ≡ Some (digits_value bytes, place + length bytes)
unfolding unsigned_at
unsigned_some stream place bytes some small = rw (some, lt-ltb _ _ small) refl

pub unsigned_large : (stream : List ℕ) (place : ℕ) (bytes : List ℕ) → number_bytes (drop place stream) ≡ Some bytes
    → 2 ^ 64 ≤ digits_value bytes → unsigned_at stream place ≡ None
unfolding unsigned_at
unsigned_large stream place bytes some large = rw (some, le-ltb _ _ large) refl

no_more : {place : ℕ} → place + 0 ≡ place
no_more = omega arith

-- a number of one byte is that byte
pub unsigned_digit : (stream : List ℕ) (place byte : ℕ) → slice_get stream place ≡ Some byte → byte < 0x80
    → unsigned_at stream place ≡ Some (byte, place + 1)
unsigned_digit stream place byte there small =
    let (inside, is) = byte_there stream place 0 byte (rw no_more there) in
    let whole = ended (drop place stream) 0 inside (lit< tt) (λ k below. absurd (omega arith)) (rw is small) in
    let one = length-take-le 1 (drop place stream) (omega arith) in
    let (digits, power, count) = digits_next (drop place stream) 0 0 1 byte (reading_none (drop place stream)) inside is in
    let value : digits_value (take 1 (drop place stream)) ≡ byte = omega (arith, digits, small) in
    let fits : digits_value (take 1 (drop place stream)) < 2 ^ 64 = rw value (omega (arith, small)) in
    rw (value, one) at (unsigned_some stream place _ whole fits)

-- past the bytes no number begins
pub unsigned_missing : (stream : List ℕ) (place : ℕ) → slice_get stream place ≡ None → unsigned_at stream place ≡ None
unsigned_missing stream place none =
    unsigned_none stream place (cut _ 0 (byte_missing stream place 0 (rw no_more none)) (λ k below. absurd (omega arith)))

pub signed_none : (stream : List ℕ) (place : ℕ) → number_bytes (drop place stream) ≡ None → signed_at stream place ≡ None
unfolding signed_at
signed_none stream place none = rw none refl

pub signed_some : (stream : List ℕ) (place : ℕ) (bytes : List ℕ) → number_bytes (drop place stream) ≡ Some bytes
    → fits_i64 (signed_value bytes) ≡ true → signed_at stream place ≡ Some (signed_value bytes, place + length bytes)
unfolding signed_at
signed_some stream place bytes some small = rw (some, small) refl

pub signed_large : (stream : List ℕ) (place : ℕ) (bytes : List ℕ) → number_bytes (drop place stream) ≡ Some bytes
    → fits_i64 (signed_value bytes) ≡ false → signed_at stream place ≡ None
unfolding signed_at
signed_large stream place bytes some large = rw (some, large) refl

pub power_fits : (count : ℕ) → count ≤ 10 → 0x80 ^ count ≤ 2 ^ 70
power_fits count few = let most : 0x80 ^ count ≤ 0x80 ^ 10 = pow-le-pow_right (lit< tt) {j = 10} few in most

ge-ltb : (m n : ℕ) → (m < n → ⊥) → nat_lt m n ≡ false
ge-ltb m n not = elim (cases_lt m n) [ inl small ↦ absurd (not small) | inr large ↦ le-ltb m n large ]

-- of 64 signed bits
pub fits_yes : (z : ℤ) → FitsSigned w64 z → fits_i64 z ≡ true
fits_yes (pos n) fits = lt-ltb _ _ fits.sfits
fits_yes (negsuc n) fits = lt-ltb _ _ fits.sfits

pub fits_not : (z : ℤ) → (FitsSigned w64 z → ⊥) → fits_i64 z ≡ false
fits_not (pos n) not = ge-ltb n (2 ^ 63) (λ small. not (record { sfits = small }))
fits_not (negsuc n) not = ge-ltb n (2 ^ 63) (λ small. not (record { sfits = small }))

pub twos_complement_of : (value scale : ℕ) (bytes : List ℕ) → value ≡ digits_value bytes → scale ≡ 0x80 ^ length bytes
    → twos_complement value scale ≡ signed_value bytes
twos_complement_of value scale bytes is power = rw (is, power) refl
