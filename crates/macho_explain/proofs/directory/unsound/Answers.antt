use Rattle.std.proofs.Common.{inr}
use Rattle.macho_explain.proofs.directory.unsound.Goals as goal

pub returns : goal.returns
returns c = rw c.alone-2.ensures (inr (inr (inr (inr c.in_ok-numbers.ensures))))
