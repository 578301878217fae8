use Rattle.std.proofs.Common.{inr}
use Rattle.macho_c.proofs.layout.layout_of.Goals as goal

-- the file was accepted, so no rule of it is broken
pub returns : goal.returns
returns c = inr c.in_ok-verified.ensures.accepted
