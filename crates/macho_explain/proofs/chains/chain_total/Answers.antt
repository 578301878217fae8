use Rattle.std.proofs.Common.{◌≡◌, ap, arith}
use Rattle.macho_chains.specs.ChainImports.{names_size}
use Rattle.macho_fields.specs.Bytes.{bytes_of}
use Rattle.macho_explain.specs.Fixups.{IsShortAt}
use Rattle.macho_explain.proofs.Fixups.{at_fixup, no_fixup, same_index}
use Rattle.macho_explain.proofs.chains.chain_total.Goals as goal

pub returns-in_err-chains : goal.returns-in_err-chains
returns-in_err-chains c = rw c.from_residual.ensures (no_fixup (bytes_of c.args.sliced.now.held.bytes) IsShortAt c.args.sliced.now.place c.in_err-chains.ensures.chains)

pub returns-in_err-index : goal.returns-in_err-index
returns-in_err-index c =
    let image = bytes_of c.args.sliced.now.held.bytes in
    let found = c.in_ok-chains.chains in
    rw c.from_residual-in_err-index.ensures (λ s.
    let (offset, at, (inside, (k, less, here, short))) = at_fixup image found.table.span (bytes_of found.bytes) found.header c.in_ok-chains.ensures.chains IsShortAt c.args.sliced.now.place s in
    c.in_err-index.ensures.at offset at (inside, (k, less, here, tt)))

pub returns-in_err-names_size : goal.returns-in_err-names_size
returns-in_err-names_size c =
    let image = bytes_of c.args.sliced.now.held.bytes in
    let found = c.in_ok-chains.chains in
    let header = found.header in
    let index = c.in_ok-index.index in
    rw c.from_residual-in_err-names_size.ensures (λ s.
    let (offset, at, (inside, (k, less, here, short))) = at_fixup image found.table.span (bytes_of found.bytes) header c.in_ok-chains.ensures.chains IsShortAt c.args.sliced.now.place s in
    let there = c.in_ok-index.ensures.at in
    let same : k ≡ index = same_index header.imports_format header.imports_offset k index (omega (arith, at, here, there)) in
    let size = ap (names_size (bytes_of found.bytes) header) same in
    let past = c.in_err-names_size.ensures in
    omega (arith, size, past, short))
