-- The part of a universal file before its slices. (mach-o/fat.h: fat_header)
use Rattle.std.specs.Prelude.{List, ℕ}
use Rattle.macho_fields.specs.Universal.{table_end}
use Rattle.macho_spans.specs.declared.span.Span.{Span}

-- the header and the table
abbrev pub fat_table_span : List ℕ → Span
fat_table_span file = record { start = 0; len = table_end file }
