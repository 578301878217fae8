use Rattle.macho_fields.specs.Bytes.{bytes_of}
use Rattle.macho_explain.specs.Fixups.{HasMissingIn}
use Rattle.macho_explain.proofs.Fixups.{no_chains, of_chains}
use Rattle.macho_explain.proofs.pointers.chain_bind.Goals as goal

pub returns-in_err-chains : goal.returns-in_err-chains
returns-in_err-chains c =
    rw c.from_residual.ensures (λ has. no_chains (bytes_of c.args.sliced.now.held.bytes) _ c.in_err-chains.ensures.chains has.0 has.1)

pub returns-in_err-bound : goal.returns-in_err-bound
returns-in_err-bound c =
    let image = bytes_of c.args.sliced.now.held.bytes in
    let place = c.args.sliced.now.place in
    let found = c.in_ok-chains.chains in
    rw c.from_residual-in_err-bound.ensures (λ has.
    c.in_err-bound.ensures (of_chains image found.table.span (bytes_of found.bytes) found.header c.in_ok-chains.ensures.chains (λ t b h. HasMissingIn image b h place) has.1))
