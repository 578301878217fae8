use Rattle.std.proofs.Common.{suc, ◌-◌, ◌*◌}
use Rattle.macho_chains.specs.ChainPointers.{ComesTo}
use Rattle.macho_alike.proofs.ChainBounds.{Rest}
use Rattle.macho_alike.proofs.Gathered.{IsWalkedTo}
use Rattle.macho_alike.proofs.bounds.add_chain.Given as goal

-- the pointers that were passed are added
abbrev pub invariant-loop-offset : goal.invariant-loop-offset
invariant-loop-offset l =
    ComesTo l.segment.image l.chains.bytes.bytes.now l.segment.place l.starts l.page l.offset
    × IsWalkedTo (Rest l.segment.image l.chains.start l.chains.bytes.bytes.now l.chains.header l.segment.place l.starts l.page l.first)
    (Rest l.segment.image l.chains.start l.chains.bytes.bytes.now l.chains.header l.segment.place l.starts l.page l.offset)
    l.initial.bounds.items l.bounds.items

abbrev pub decreases-loop-offset : goal.decreases-loop-offset
decreases-loop-offset l = suc l.page * l.starts.page_size - l.offset
