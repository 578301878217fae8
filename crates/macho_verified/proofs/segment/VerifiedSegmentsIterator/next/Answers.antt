use Rattle.macho_verified.specs.Accepted.{IsVerifiedSegment}
use Rattle.macho_image.proofs.WithOneCmd.{rest_has}
use Rattle.macho_verified.proofs.segment.VerifiedSegmentsIterator.next.Goals as goal

pub invariant_of-self-2 : goal.invariant_of-self-2
invariant_of-self-2 c = rest_has IsVerifiedSegment _ _ _ c.in_ok-segment.ensures.steps c.self.invariant
