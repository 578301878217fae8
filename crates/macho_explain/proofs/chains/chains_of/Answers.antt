use Rattle.std.proofs.Common.{◌∙◌, refl, ap, sym}
use Rattle.std.proofs.lemmas.Option.{none-some}
use Rattle.macho_chains.specs.ChainHeader.{chain_header}
use Rattle.macho_fields.specs.Bytes.{bytes_of}
use Rattle.macho_fields.specs.declared.header.loader.TheConstants as loader
use Rattle.macho_explain.specs.Wholes.{named_table}
use Rattle.macho_explain.proofs.Wholes.{same_bytes}
use Rattle.macho_explain.proofs.chains.chains_of.Goals as goal

pub returns-clause-size : goal.returns-clause-size
returns-clause-size c = rw c.in_ok-table.ensures.named refl

-- without a table
pub returns-in_err-table-clause-chains : goal.returns-in_err-table-clause-chains
returns-in_err-table-clause-chains c = rw c.from_residual.ensures (λ opens table bytes header is. c.in_err-table.ensures opens table bytes is.0)

-- no header is known
pub returns-in_err-header-clause-chains : goal.returns-in_err-header-clause-chains
returns-in_err-header-clause-chains c =
    let image = bytes_of c.args.sliced.now.held.bytes in
    rw c.from_residual-in_err-header.ensures (λ opens table bytes header (is, some).
    let same = same_bytes image (named_table image loader.LC_DYLD_CHAINED_FIXUPS) c.in_ok-table.field-0.table.span (bytes_of c.in_ok-table.field-0.bytes) c.in_ok-table.ensures table bytes is in
    none-some header (c.in_err-header.ensures ∙ (ap chain_header (sym same) ∙ some)))
