use Rattle.std.proofs.Common.{ℕ, get_or}
use Rattle.macho_alike.specs.Bounds.{WereGathered, IsSaidFor}
use Rattle.macho_alike.proofs.SaidNames.{no_bound}
use Rattle.macho_alike.proofs.Gathered.{OfBelow}
use Rattle.macho_alike.proofs.indirects.add_section.Given as goal

-- what is said of the entries before is added
abbrev pub invariant-loop-bound : goal.invariant-loop-bound
invariant-loop-bound l =
    WereGathered (OfBelow (λ (k : ℕ). IsSaidFor l.image (l.section.segment, l.section.place) (get_or l.near k no_bound)) l.bound-index) l.initial.said.items l.said.items
