use Rattle.std.proofs.Common.{◌≡◌}
use Rattle.macho_rules.proofs.Searches.{Searching}
use Rattle.macho_rules.proofs.SegmentItems.{SharesBefore}
use Rattle.macho_second.proofs.segments.overlaps_earlier.Given as goal

-- each earlier segment with an address in common is left
abbrev pub invariant-loop-earlier : goal.invariant-loop-earlier
invariant-loop-earlier l =
    l.segment.image ≡ l.image → Searching (λ s. s.place) (λ s. SharesBefore l.segment.place s.image s.place) l.initial.earlier-iterator l.earlier-iterator
