use Rattle.std.proofs.Common.{◌≡◌, ◌+◌, ◌*◌, ◌≤◌, length, map, max}
use Rattle.macho_strict.specs.Passed.{occupied}
use Rattle.macho_strict.proofs.by_start.occupied_list.Given as goal

-- the spans belong to the elements that were yielded and have bytes
abbrev pub invariant-loop-element : goal.invariant-loop-element
invariant-loop-element g l = record {
  spans : l.list.spans ≡ occupied (map (λ element. element.span) l.yielded);
  room : l.list.capacity ≤ max l.count (2 * length l.list.spans + 4);
}
