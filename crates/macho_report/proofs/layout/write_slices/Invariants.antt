use Rattle.std.proofs.Common.{◌∷◌, map, drop}
use Rattle.std.specs.List.{enumerate_from}
use Rattle.macho_fields.specs.Universal.{slices_of}
use Rattle.macho_text.specs.Stream.{joined}
use Rattle.macho_text.proofs.Writers.{PutsPart}
use Rattle.macho_lines.specs.Layout.{slice_text}
use Rattle.macho_report.proofs.layout.write_slices.Given as goal

-- the lines of the slices that are left are still to be written
abbrev pub invariant-loop-index : goal.invariant-loop-index
invariant-loop-index g l = PutsPart g.W.Output l.initial.writer l.writer
    (joined (map (slice_text (g.J.Judge.says l.judge) l.verified) (enumerate_from 0 (slices_of l.verified))))
    (l.line ∷ map (slice_text (g.J.Judge.says l.judge) l.verified) (drop l.index (enumerate_from 0 (slices_of l.verified))))
