use Rattle.macho_fields.specs.Bytes.{bytes_of}
use Rattle.macho_explain.specs.Fixups.{HasLeadIn}
use Rattle.macho_explain.proofs.Fixups.{no_chains, of_chains}
use Rattle.macho_explain.proofs.pointers.chain_slot.Goals as goal

pub returns-in_err-chains : goal.returns-in_err-chains
returns-in_err-chains c =
    rw c.from_residual.ensures (λ has. no_chains (bytes_of c.args.sliced.now.held.bytes) _ c.in_err-chains.ensures.chains has.0 has.1)

pub returns-in_err-segment : goal.returns-in_err-segment
returns-in_err-segment c =
    let image = bytes_of c.args.sliced.now.held.bytes in
    let place = c.args.sliced.now.place in
    let found = c.in_ok-chains.chains in
    rw c.from_residual-in_err-segment.ensures (λ has.
    c.in_err-segment.ensures (of_chains image found.table.span (bytes_of found.bytes) found.header c.in_ok-chains.ensures.chains (λ t b h. HasLeadIn image t.start b h place) has.1))
