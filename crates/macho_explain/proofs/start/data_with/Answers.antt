use Rattle.std.proofs.Common.{ℕ, List, subst}
use Rattle.macho_fields.specs.Bytes.{bytes_of}
use Rattle.macho_fields.specs.declared.header.loader.TheConstants as loader
use Rattle.macho_explain.specs.Readers.{HasDataUpTo}
use Rattle.macho_explain.specs.Wholes.{named_table}
use Rattle.macho_explain.proofs.Wholes.{same_bytes}
use Rattle.macho_explain.proofs.start.data_with.Goals as goal

pub returns-in_err-whole : goal.returns-in_err-whole
returns-in_err-whole c = rw c.from_residual.ensures (λ opens end (table, bytes, is, has). c.in_err-whole.ensures opens table bytes is)

pub returns-in_err-index : goal.returns-in_err-index
returns-in_err-index c =
    let image = bytes_of c.args.sliced.now.held.bytes in
    let whole = c.in_ok-whole.whole in
    rw c.from_residual-in_err-index.ensures (λ opens end (table, bytes, is, has).
    c.in_err-index.ensures end (subst (λ (b : List ℕ). HasDataUpTo b c.args.place end)
    (same_bytes image (named_table image loader.LC_DATA_IN_CODE) whole.table.span (bytes_of whole.bytes) c.in_ok-whole.ensures table bytes is) has))
