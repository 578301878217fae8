-- Names as text. A name is any bytes without a zero.
use Rattle.std.specs.Prelude.{◌&&◌, ℕ, ◌==◌, not, nat_le, List, [], ◌∷◌, map, Bool, codes, if◌then◌else◌}
use Rattle.macho_text.specs.Stream.{joined}
use Rattle.macho_text.specs.Number.{byte_hex}

-- a byte is written as it is: it is a printable character of ASCII, but neither a double quote
-- (0x22) nor a backslash (0x5c)
abbrev pub is_plain : ℕ → Bool
is_plain byte = nat_le 0x20 byte && nat_le byte 0x7e && not (byte == 0x22) && not (byte == 0x5c)

-- a byte of a name: as it is, or `\x` and its two digits
abbrev pub escaped : ℕ → List ℕ
escaped byte = if is_plain byte then byte ∷ [] else joined (codes "\\x" ∷ byte_hex byte ∷ [])

-- a name in double quotes
abbrev pub quoted : List ℕ → List ℕ
quoted name = joined (codes "\"" ∷ joined (map escaped name) ∷ codes "\"" ∷ [])
