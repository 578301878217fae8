use Rattle.std.proofs.Common.{IfSome}
use Rattle.macho_fields.specs.Bytes.{bytes_of}
use Rattle.macho_rules.specs.Verdict.{WasFound}
use Rattle.macho_rules.proofs.KeptSlices.{KeptSlices}
use Rattle.macho_rules.proofs.verdict.check_slices.Given as goal

-- nothing is broken in the file itself, nor in the slices that are passed, and the last of their images was found
abbrev pub invariant-loop-index : goal.invariant-loop-index
invariant-loop-index l = KeptSlices (bytes_of l.file) l.index × IfSome l.found (WasFound (bytes_of l.file))
