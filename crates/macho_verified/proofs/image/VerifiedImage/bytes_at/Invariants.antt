use Rattle.macho_rules.proofs.Searches.{Searching}
use Rattle.macho_verified.specs.Image.{HasBytesAt}
use Rattle.macho_verified.proofs.image.VerifiedImage.bytes_at.Given as goal

-- each segment that has the bytes is left
abbrev pub invariant-loop-segment : goal.invariant-loop-segment
invariant-loop-segment l =
    Searching (λ s. 0) (λ s. HasBytesAt s.image l.address l.len s.place) l.initial.segment-iterator l.segment-iterator
