-- Bytes as numbers. A file is a list of bytes. A place is an offset in bytes
-- from its start.
use Rattle.std.specs.Prelude.{◌≡◌, ℕ, ◌+◌, ◌≤◌, ◌<◌, ◌==◌, List, length, drop, take, slice_get, slice_index, Option, Some, None, nat_le, if◌then◌else◌}
use Rattle.std.specs.List.{before_first}
use Rattle.byteorder.specs.Endian.{big_number, little_number}
use Rattle.macho_fields.specs.declared.bytes.Order.{Order}
use Rattle.macho_fields.specs.declared.bytes.Order.TheVariants.{Big, Little}

-- the number in the width bytes from a place on: the sum of each byte times its power of 256, where
-- power 0 belongs to the last byte in big-endian order, and to the first in little-endian order
abbrev pub number : Order → ℕ → List ℕ → ℕ → ℕ
number Big width bytes place = big_number width (drop place bytes)
number Little width bytes place = little_number width (drop place bytes)

-- the number of a field, or none where the field is not wholly inside the bytes
abbrev pub field : Order → ℕ → List ℕ → ℕ → Option ℕ
field order width bytes place =
    if nat_le (place + width) (length bytes) then Some (number order width bytes place) else None

-- the len bytes from start on
abbrev pub part : ℕ → ℕ → List ℕ → List ℕ
part start len bytes = take len (drop start bytes)

-- the bytes from start on, up to the first zero byte
abbrev pub string_from : ℕ → List ℕ → List ℕ
string_from start bytes = before_first (λ byte. byte == 0) (drop start bytes)

-- the string from start on is followed by a zero byte, which comes before end
abbrev pub IsEnded : List ℕ → ℕ → ℕ → Type 0
IsEnded bytes start end =
    let after = start + length (string_from start bytes) in
    (after < end) × (slice_get bytes after ≡ Some 0)

-- some place from start on and below end is inside the bytes, and its byte is zero
abbrev pub HasZero : List ℕ → ℕ → ℕ → Type 0
HasZero bytes start end =
    (z : ℕ) × (start ≤ z) × (z < end) × (z < length bytes) × (slice_index bytes z ≡ 0)
