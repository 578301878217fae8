use Rattle.std.proofs.Common.{ℕ, ◌<◌}
use Rattle.macho_fields.specs.Bytes.{bytes_of}
use Rattle.macho_explain.specs.FirstSlices.{HasImageWith}
use Rattle.macho_explain.proofs.sliced.slice_with.Given as goal

-- no slice that was passed is a 64-bit image with the byte
abbrev pub invariant-loop-index : goal.invariant-loop-index
invariant-loop-index l = (k : ℕ) → k < l.index → ¬ HasImageWith (bytes_of l.file) l.place k
