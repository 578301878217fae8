use Rattle.std.proofs.Common.{ℕ}
use Rattle.macho_alike.specs.Bounds.{WereGathered}
use Rattle.macho_alike.specs.Indirects.{IsPageBound}
use Rattle.macho_alike.specs.declared.bounds.Bound.{Bound}
use Rattle.macho_alike.proofs.Gathered.{OfBelow}
use Rattle.macho_alike.proofs.bounds.add_segment.Given as goal

-- the pointers of the pages before are added
abbrev pub invariant-loop-page : goal.invariant-loop-page
invariant-loop-page l =
    WereGathered
    (OfBelow (λ (page : ℕ) (bound : Bound). IsPageBound l.segment.image l.chains.start l.chains.bytes.bytes.now l.chains.header bound l.segment.place l.starts page) l.page)
    l.initial.bounds.items l.bounds.items
