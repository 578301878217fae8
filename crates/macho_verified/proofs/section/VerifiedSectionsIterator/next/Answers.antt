use Rattle.macho_verified.specs.Accepted.{IsVerifiedSection}
use Rattle.macho_image.proofs.WithOneCmd.{rest_has}
use Rattle.macho_verified.proofs.section.VerifiedSectionsIterator.next.Goals as goal

pub invariant_of-self-2 : goal.invariant_of-self-2
invariant_of-self-2 c = rest_has IsVerifiedSection _ _ _ c.in_ok-section.ensures.steps c.self.invariant
