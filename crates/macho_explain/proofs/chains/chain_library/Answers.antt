use Rattle.macho_fields.specs.Bytes.{bytes_of}
use Rattle.macho_explain.specs.Fixups.{IsImportAt}
use Rattle.macho_explain.proofs.Fixups.{at_fixup, no_fixup}
use Rattle.macho_explain.proofs.chains.chain_library.Goals as goal

pub returns-in_err-chains : goal.returns-in_err-chains
returns-in_err-chains c = rw c.from_residual.ensures (no_fixup (bytes_of c.args.sliced.now.held.bytes) IsImportAt c.args.sliced.now.place c.in_err-chains.ensures.chains)

pub returns-in_err-index : goal.returns-in_err-index
returns-in_err-index c =
    let image = bytes_of c.args.sliced.now.held.bytes in
    let found = c.in_ok-chains.chains in
    rw c.from_residual-in_err-index.ensures (λ s.
    let (offset, at, has) = at_fixup image found.table.span (bytes_of found.bytes) found.header c.in_ok-chains.ensures.chains IsImportAt c.args.sliced.now.place s in
    c.in_err-index.ensures.at offset at has)
