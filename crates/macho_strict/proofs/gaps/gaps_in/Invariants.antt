use Rattle.std.proofs.Common.{take}
use Rattle.macho_fields.specs.Bytes.{bytes_of}
use Rattle.macho_spans.specs.Overlap.{sorted_spans}
use Rattle.macho_strict.specs.Gaps.{ArePassed}
use Rattle.macho_strict.proofs.gaps.gaps_in.Given as goal

-- the spans before this one were passed
abbrev pub invariant-loop-index : goal.invariant-loop-index
invariant-loop-index l = ArePassed l.fn.wanted (bytes_of l.fn.bytes) (take l.index (sorted_spans l.spans)) l.gaps
