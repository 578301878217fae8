use Rattle.std.proofs.Common.{◌≡◌, ◌+◌, ◌*◌, ◌≤◌, length, map, max}
use Rattle.macho_strict.proofs.overlap.span_list.Given as goal

-- the spans belong to the elements that were yielded
abbrev pub invariant-loop-element : goal.invariant-loop-element
invariant-loop-element g l =
    record { spans : l.list.spans ≡ map (λ element. element.span) l.yielded; room : l.list.capacity ≤ max l.count (2 * length l.yielded + 4) }
