-- The numbers of linked data: LEB128, of 7 bits in each byte, the lowest first. Bit 0x80 of a byte says
-- that another one follows. Zeros at the end, as in 0x80 0x00, are allowed. (DWARF: uleb128, sleb128)
use Rattle.std.specs.Prelude.{◌≡◌, ℕ, ◌+◌, ◌*◌, ◌%◌, ◌^◌, ◌&&◌, nat_lt, nat_le, List, [], ◌∷◌, length, take, drop, Option, Some, None, MatchOption, Bool, ℤ, pos, negsuc, ◌-ℤ◌, if◌then◌else◌}
use Rattle.std.specs.List.{position_or_len}
use Rattle.std.specs.Option.{option_and_then}
use Rattle.macho_tables.specs.declared.numbers.Encoded.{Encoded}
use Rattle.macho_tables.specs.declared.numbers.TheConstants as numbers

-- The bytes of the number at the front of a stream: up to the first whose bit 0x80 is not set, and with
-- it. They are none without such a byte, or where they are more than ten.
unfoldable pub number_bytes : List ℕ → Option (List ℕ)
number_bytes stream =
    let size = position_or_len (λ byte. nat_lt byte 0x80) stream + 1 in
    if nat_le size (length stream) && nat_le size numbers.MOST_BYTES then Some (take size stream) else None

-- the number whose digits to the base 128 are the low seven bits of each byte, the lowest first
abbrev pub digits_value : List ℕ → ℕ
digits_value [] = 0
digits_value (byte ∷ bytes) = byte % 0x80 + 0x80 * digits_value bytes

-- In two's complement the highest bit of the digits is the sign: of a number below a power of two, what
-- is half that power or more is negative.
abbrev pub twos_complement : ℕ → ℕ → ℤ
twos_complement value scale = if nat_lt (2 * value) scale then pos value else pos value -ℤ pos scale

abbrev pub signed_value : List ℕ → ℤ
signed_value bytes = twos_complement (digits_value bytes) (0x80 ^ length bytes)

-- The unsigned number at a place, with the first place past it. It is None where it does not end, or is
-- 2^64 or more.
unfoldable pub unsigned_at : List ℕ → ℕ → Option (ℕ × ℕ)
unsigned_at stream place =
    option_and_then (λ bytes. if nat_lt (digits_value bytes) (2 ^ 64)
    then Some (digits_value bytes, place + length bytes) else None) (number_bytes (drop place stream))

-- what is read at a place is the number there
abbrev pub IsEncoded : List ℕ → ℕ → Option Encoded → Type 0
IsEncoded stream place encoded =
    MatchOption encoded (number_bytes (drop place stream) ≡ None)
    (λ e. (bytes : List ℕ) × (number_bytes (drop place stream) ≡ Some bytes)
    × (e.value ≡ digits_value bytes) × (e.scale ≡ 0x80 ^ length bytes) × (e.next ≡ place + length bytes))

-- a number of 64 signed bits
abbrev pub fits_i64 : ℤ → Bool
fits_i64 (pos n) = nat_lt n (2 ^ 63)
fits_i64 (negsuc n) = nat_lt n (2 ^ 63)

-- The signed number at a place, with the first place past it. It is None where it does not end, or has
-- no 64 signed bits.
unfoldable pub signed_at : List ℕ → ℕ → Option (ℤ × ℕ)
signed_at stream place =
    option_and_then (λ bytes. if fits_i64 (signed_value bytes)
    then Some (signed_value bytes, place + length bytes) else None) (number_bytes (drop place stream))
