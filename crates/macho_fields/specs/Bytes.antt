-- What a contract sees of the bytes of a file.
use Rattle.std.specs.Prelude.{ℕ, List}
use Rattle.macho_fields.specs.declared.bytes.Bytes.{Bytes}

-- the bytes, in order
abbrev pub bytes_of : Bytes → List ℕ
bytes_of b = b.bytes.now
