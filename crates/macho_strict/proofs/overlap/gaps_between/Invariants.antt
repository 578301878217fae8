use Rattle.std.proofs.Common.{map}
use Rattle.macho_fields.specs.Bytes.{bytes_of}
use Rattle.macho_strict.specs.Passed.{AreCounted}
use Rattle.macho_strict.proofs.overlap.gaps_between.Given as goal

-- the elements that were yielded were passed
abbrev pub invariant-loop-element : goal.invariant-loop-element
invariant-loop-element g l = AreCounted l.wanted (bytes_of l.bytes) (map (λ element. element.span) l.yielded) l.counted
