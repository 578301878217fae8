use Rattle.std.proofs.Common.{◌≡◌, ◌<◌, ℕ, slice_index_or}
use Rattle.macho_fields.specs.Bytes.{bytes_of}
use Rattle.macho_fields.specs.declared.load_command.TableFields.{TableFields}
use Rattle.macho_explain.specs.Compared.{IsTablePast}
use Rattle.macho_explain.proofs.command.table_range.Given as goal

-- no table that was passed ends past the image
abbrev pub invariant-loop-fields : goal.invariant-loop-fields
invariant-loop-fields l =
    (k : ℕ) → k < l.fields-index → (fields : TableFields) → slice_index_or l.fields-items k fields ≡ fields
    → ¬ IsTablePast (bytes_of l.sliced.held.bytes) l.sliced.place fields
