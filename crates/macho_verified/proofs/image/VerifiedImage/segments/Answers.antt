use Rattle.std.proofs.Common.{All, sym, subst, rules}
use Rattle.macho_verified.specs.Accepted.{IsVerifiedSegment}
use Rattle.macho_verified.proofs.Accepted.{segments_hold}
use Rattle.macho_verified.proofs.image.VerifiedImage.segments.Goals as goal

pub invariant_of-result : goal.invariant_of-result
invariant_of-result c = subst (All IsVerifiedSegment) (sym c.segments.ensures.segments) (segments_hold c.self.inside.image c.self.invariant)

pub returns : goal.returns
returns c = search rules
