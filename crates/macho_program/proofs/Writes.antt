-- What was written before a fault.
use Rattle.std.proofs.Common.{ℕ, List, Option, length}
use Rattle.std.proofs.Math.Seq.{take-length}
use Rattle.std.proofs.KnownBytes.{Appends-kept}
use Rattle.std.specs.Io.KnownBytes.{Keeps}
use Rattle.macho_text.specs.Stream.{Wrote, WrotePrefix}

-- a whole text, and then a fault that wrote nothing
pub wrote_then_kept : (a b c : Option (List ℕ)) (text : List ℕ) → Wrote a b text → Keeps b c → WrotePrefix a c text
wrote_then_kept a b c text wrote kept = record {
  count = length text;
  appended = rw (take-length text) (Appends-kept a b c text wrote.appended kept);
}
