use Rattle.std.proofs.Common.{◌≤◌, arith, subst, sym}
use Rattle.macho_chains.specs.declared.chain_pointers.ChainPointer.{ChainPointer}
use Rattle.macho_fixups.proofs.ChainWalks.{distance_near}
use Rattle.macho_fixups.proofs.chained_fixups.ChainFixups.row_at.Goals as goal

pub returns-clause-near : goal.returns-clause-near
returns-clause-near c =
    let far = subst (λ (p : ChainPointer). p.distance ≤ 0x4000) (sym c.of-pointer.ensures) (distance_near c.args.segment.starts.format c.in_ok-raw.raw) in
    let near = c.in_ok-raw.ensures.near in
    omega (arith, far, near)
