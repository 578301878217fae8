use Rattle.std.proofs.Common.{◌-◌, ◌≤◌, None}
use Rattle.macho_chains.specs.ChainPointers.{HasBadNext, BindsNone}
use Rattle.macho_chains.proofs.ChainPages.{IsWalkedTo}
use Rattle.macho_chains.proofs.chain_pages.chain_survey.Given as goal

-- what was found of the pointers that were passed
abbrev pub invariant-loop-next : goal.invariant-loop-next
invariant-loop-next l = record {
  within : l.offset ≤ l.last;
  slot : IsWalkedTo l.segment.image l.segment.place l.starts l.page (HasBadNext l.segment.image l.segment.place l.starts l.page) l.first l.offset None;
  bind : IsWalkedTo l.segment.image l.segment.place l.starts l.page (BindsNone l.segment.image l.segment.place l.starts l.limits.imports) l.first l.offset l.bind;
}

abbrev pub decreases-loop-next : goal.decreases-loop-next
decreases-loop-next l = l.last - l.offset
