-- Bytes of a file, by their place in it.
use Rattle.std.specs.Prelude.{ℕ, ◌+◌, ◌==◌, List, length, nat_le, if◌then◌else◌, []}
use Rattle.macho_fields.specs.Field.{part}
use Rattle.macho_rows.specs.declared.span.KesvuotSpan.{KesvuotSpan}

abbrev pub span_at : ℕ → ℕ → KesvuotSpan
span_at offset size = record { offset = offset; size = size }

-- where these bytes lie, from the offset in the file on; no bytes lie at 0
abbrev pub span_of : ℕ → List ℕ → KesvuotSpan
span_of offset bytes =
    if length bytes == 0 then span_at 0 0 else span_at offset (length bytes)

-- the bytes at these places, and none where they do not all lie inside
abbrev pub part_or_none : ℕ → ℕ → List ℕ → List ℕ
part_or_none start len bytes =
    if nat_le (start + len) (length bytes) then part start len bytes else []
