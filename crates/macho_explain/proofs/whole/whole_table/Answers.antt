use Rattle.std.proofs.Common.{◌≡◌, ◌≤◌, ◌<◌, ℕ, List, length, Option, None, Some}
use Rattle.std.specs.Prelude.{MatchOption}
use Rattle.macho_fields.specs.Bytes.{bytes_of}
use Rattle.macho_fields.specs.Field.{part}
use Rattle.macho_spans.specs.Span.{end_of}
use Rattle.macho_spans.specs.declared.span.Span.{Span}
use Rattle.macho_explain.specs.Wholes.{IsWhole, Opens, named_table}
use Rattle.macho_explain.specs.declared.table.Bounded.{Bounded}
use Rattle.macho_explain.specs.declared.whole.Whole.{Whole}
use Rattle.macho_explain.proofs.Wholes.{none_inside, none_named, whole_read}
use Rattle.macho_explain.proofs.whole.whole_table.Goals as goal

-- what was read of a table that is named
whole_is : (image : List ℕ) (named : Option Span) (table : Bounded) (found : Option Whole) → named ≡ Some table.span
    → MatchOption found (length image < end_of table.span) (λ f. (f.table ≡ table) × (end_of table.span ≤ length image) × (bytes_of f.bytes ≡ part table.span.start table.span.len image))
    → MatchOption found (Opens image → (other : Span) (bytes : List ℕ) → ¬ IsWhole image named other bytes) (λ f. IsWhole image named f.table.span (bytes_of f.bytes))
whole_is image named table None is past = λ opens. none_inside image named table.span is past
whole_is image named table (Some f) is read = whole_read image named table f.table (bytes_of f.bytes) is read

pub returns-in_err-data_table : goal.returns-in_err-data_table
returns-in_err-data_table c =
    let image = bytes_of c.args.sliced.now.held.bytes in
    rw c.from_residual.ensures (λ opens. none_named image (named_table image c.args.cmd) (c.in_err-data_table.ensures opens))

pub returns : goal.returns
returns c =
    let image = bytes_of c.args.sliced.now.held.bytes in
    whole_is image (named_table image c.args.cmd) c.in_ok-data_table.field-0 c.read_whole.result c.in_ok-data_table.ensures c.read_whole.ensures
