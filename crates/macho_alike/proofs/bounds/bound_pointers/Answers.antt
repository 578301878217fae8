use Rattle.macho_alike.specs.Indirects.{IsBound, IsChainBound, IsOpcodeBound}
use Rattle.macho_alike.proofs.Gathered.{gathered_all, gathered_both}
use Rattle.macho_alike.proofs.bounds.bound_pointers.Goals as goal

pub returns : goal.returns
returns c =
    let image = c.args.image.now in
    gathered_all (IsBound image) c.new-bounds.result.items c.add_chains.new.bounds.items c.new-bounds.ensures.items
    (gathered_both (IsOpcodeBound image) (IsChainBound image) c.new-bounds.result.items c.add_opcodes.new.bounds.items c.add_chains.new.bounds.items
    c.in_ok-add_opcodes.ensures c.in_ok-add_chains.ensures)
