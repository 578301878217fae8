use Rattle.std.proofs.Common.{All, sym, subst, rules}
use Rattle.macho_verified.specs.Accepted.{IsVerifiedSection}
use Rattle.macho_verified.proofs.Accepted.{sections_hold}
use Rattle.macho_verified.proofs.segment.VerifiedSegment.sections.Goals as goal

pub invariant_of-result : goal.invariant_of-result
invariant_of-result c = subst (All IsVerifiedSection) (sym c.sections.ensures) (sections_hold c.self.inside.segment c.self.invariant)

pub returns : goal.returns
returns c = search rules
