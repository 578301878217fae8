use Rattle.std.proofs.Common.{subst}
use Rattle.macho_verified.specs.Accepted.{IsAccepted}
use Rattle.macho_verified.proofs.Accepted.{accepted_unbroken, accepted_sound}
use Rattle.macho_verified.proofs.image.VerifiedImage.image.Goals as goal

pub returns-clause-unbroken : goal.returns-clause-unbroken
returns-clause-unbroken c = accepted_unbroken c.args.self.now (subst IsAccepted c.self.view_is c.self.invariant)

pub returns-clause-sound : goal.returns-clause-sound
returns-clause-sound c = accepted_sound c.args.self.now (subst IsAccepted c.self.view_is c.self.invariant)
