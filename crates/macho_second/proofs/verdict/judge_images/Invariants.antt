use Rattle.macho_fields.specs.Bytes.{bytes_of}
use Rattle.macho_rules.proofs.KeptSlices.{KeptSlices}
use Rattle.macho_second.proofs.verdict.judge_images.Given as goal

-- nothing is broken in the file itself, nor in the slices that are passed
abbrev pub invariant-loop-k : goal.invariant-loop-k
invariant-loop-k l = KeptSlices (bytes_of l.entries.file) l.k
