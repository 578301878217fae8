use Rattle.std.proofs.Common.{◌≡◌, ◌++◌, List, map}
use Rattle.macho_image.specs.Segment.{SegmentView}
use Rattle.macho_strict.specs.Passed.{occupied}
use Rattle.macho_strict.specs.Unclaimed.{code_among}
use Rattle.macho_strict.proofs.unclaimed.push_code.Given as goal

-- the bytes of each passed segment that may be executed, and has some, were added
abbrev pub invariant-loop-segment : goal.invariant-loop-segment
invariant-loop-segment l =
    (seen : List SegmentView) × (l.initial.segment-iterator ≡ seen ++ l.segment-iterator)
    × (l.list.spans ≡ l.initial.list.spans ++ occupied (code_among l.image (map (λ s. s.place) seen)))
