use Rattle.std.proofs.Common.{◌≡◌, ◌<◌, ℕ, slice_index_or}
use Rattle.macho_fields.specs.Bytes.{bytes_of}
use Rattle.macho_fields.specs.declared.load_command.TableFields.{TableFields}
use Rattle.macho_explain.specs.Compared.{IsLostTable}
use Rattle.macho_explain.proofs.home.first_homeless.Given as goal

-- each table that was passed has a home, or no bytes, or loaders do not look for it
abbrev pub invariant-loop-fields : goal.invariant-loop-fields
invariant-loop-fields l =
    (k : ℕ) → k < l.fields-index → (fields : TableFields) → slice_index_or l.fields-items k fields ≡ fields
    → ¬ IsLostTable (bytes_of l.sliced.held.bytes) l.sliced.place l.cmd fields
