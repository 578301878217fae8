use Rattle.macho_verified.specs.Accepted.{IsVerifiedIndirect}
use Rattle.macho_image.proofs.WithOneCmd.{rest_has}
use Rattle.macho_verified.proofs.indirect.VerifiedIndirectsIterator.next.Goals as goal

pub invariant_of-self-2 : goal.invariant_of-self-2
invariant_of-self-2 c = rest_has (IsVerifiedIndirect c.self.inside.image.now) _ _ _ c.in_ok-entry.ensures.steps c.self.invariant
