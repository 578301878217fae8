-- The fields of tables of linked data, which are little-endian.
use Rattle.std.specs.Prelude.{ℕ, List}
use Rattle.macho_fields.specs.Field.{number}
use Rattle.macho_fields.specs.declared.bytes.Order.TheVariants.{Little}

-- a field of 16 bits
abbrev pub half : List ℕ → ℕ → ℕ
half table offset = number Little 2 table offset
