-- Numbers as text.
use Rattle.std.specs.Prelude.{ℕ, ◌/◌, ◌%◌, Bool, List, false, true, [], ◌∷◌, codes}
use Rattle.std.specs.Fmt.{decimal, digits, digit_glyph}
use Rattle.macho_text.specs.Stream.{joined}

-- what `{:x}` writes: the digits of a number of at most 64 bits, high first, lower-case, with no leading zero
abbrev pub hex : ℕ → List ℕ
hex n = digits 16 false n

-- what `{:#x}` writes
abbrev pub prefixed_hex : ℕ → List ℕ
prefixed_hex n = joined (codes "0x" ∷ hex n ∷ [])

-- the two digits of a byte in base 16, the high one first
abbrev pub byte_digits : Bool → ℕ → List ℕ
byte_digits upper byte = digit_glyph upper (byte / 16) ∷ digit_glyph upper (byte % 16) ∷ []

-- what `{:02x}` writes of a byte
abbrev pub byte_hex : ℕ → List ℕ
byte_hex = byte_digits false

-- what `{:02X}` writes of a byte
abbrev pub upper_byte_hex : ℕ → List ℕ
upper_byte_hex = byte_digits true

-- a version X.Y.Z in the form xxxx.yy.zz: 16, 8 and 8 bits
-- (mach-o/loader.h: dylib.current_version, build_version_command.minos)
abbrev pub version_text : ℕ → List ℕ
version_text version =
    joined (decimal (version / 65536) ∷ codes "." ∷ decimal (version / 256 % 256) ∷ codes "."
    ∷ decimal (version % 256) ∷ [])
