use Rattle.std.proofs.Common.{rules}
use Rattle.macho_verified.proofs.Accepted.{accepted}
use Rattle.macho_verified.proofs.image.VerifiedImage.of.Goals as goal

pub invariant_of-result : goal.invariant_of-result
invariant_of-result c = accepted c.in_ok-image.image c.in_ok-image.ensures.unbroken c.in_ok-image.ensures.sound

pub returns-in_err-image-clause-is_image : goal.returns-in_err-image-clause-is_image
returns-in_err-image-clause-is_image c = search rules

pub returns-clause-is_image : goal.returns-clause-is_image
returns-clause-is_image c = search rules

pub returns-clause-image : goal.returns-clause-image
returns-clause-image c = search rules
