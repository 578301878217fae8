use Rattle.std.proofs.Common.{refl}
use Rattle.macho_program.proofs.Writes.{wrote_then_kept}
use Rattle.macho_program.proofs.program.show.Goals as goal

-- at a failed flush the whole text is written
pub returns-in-Err : goal.returns-in-Err
returns-in-Err g c = record {
  found = tt;
  flushed = tt;
  fault = refl;
  write = λ _. c.in-Err.ensures.failed.0 refl;
  prefix = λ _. rw c.as_bytes.ensures.value at (wrote_then_kept _ _ _ _ c.in-Ok.ensures.text.bytes c.in-Err.ensures.kept);
}
