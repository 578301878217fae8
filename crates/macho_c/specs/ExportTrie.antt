-- The export trie of an image. (mach-o/loader.h: LC_DYLD_EXPORTS_TRIE, dyld_info_command)
use Rattle.std.specs.Prelude.{◌≡◌, ℕ, ◌+◌, List, length, Option, Some, None, nat_le, if◌then◌else◌}
use Rattle.std.specs.Option.{option_map, option_and_then}
use Rattle.macho_spans.specs.Span.{end_of}
use Rattle.macho_spans.specs.declared.span.Span.{Span}
use Rattle.macho_exports.specs.Exports.{export_table}
use Rattle.macho_rows.specs.Rows.{IsOfImage}
use Rattle.macho_rows.specs.Spans.{span_at}
use Rattle.macho_c.specs.Status.{Answers, Tells}
use Rattle.macho_rows.specs.declared.span.KesvuotSpan.{KesvuotSpan}

-- the table, if it does not end past the image
abbrev pub if_inside : List ℕ → Span → Option Span
if_inside image table = if nat_le (end_of table) (length image) then Some table else None

-- Where the trie lies in an image: it is the table that the linked profile judges. It is None where the headers
-- break a rule, or the table ends past the image.
abbrev pub IsTrie : List ℕ → Option Span → Type 0
IsTrie image = IsOfImage image (λ trie. trie ≡ option_and_then (if_inside image) (export_table image))

-- the answer that this is the trie of an image that begins at `place` in the file
abbrev pub IsTrieAt : ℕ → Option Span → ℕ → KesvuotSpan → Type 0
IsTrieAt place trie status span =
    Answers (span_at 0 0) status span (option_map (λ (table : Span). span_at (place + table.start) table.len) trie)

-- the answer on an image
abbrev pub IsTrieAnswer : List ℕ → ℕ → ℕ → KesvuotSpan → Type 0
IsTrieAnswer image place status span =
    Tells (IsTrie image) (λ trie. IsTrieAt place trie status span)

-- The answer on an image that breaks no rule: the whole table, if it has one.
abbrev pub IsWholeTrie : List ℕ → ℕ → ℕ → KesvuotSpan → Type 0
IsWholeTrie image place = IsTrieAt place (export_table image)
