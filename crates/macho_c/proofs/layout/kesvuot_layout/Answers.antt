use Rattle.std.proofs.Common.{refl, inr}
use Rattle.macho_c.proofs.layout.kesvuot_layout.Goals as goal

pub returns-in-Err-Memory : goal.returns-in-Err-Memory
returns-in-Err-Memory c = let refused = rw c.in-Err-Memory.field-0-is at c.in-Err-Memory.ensures in inr (inr (refl, refused, (refl, refl)))
