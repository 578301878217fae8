use Rattle.std.proofs.Common.{◌∷◌, ◌++◌, map}
use Rattle.macho_fields.specs.Image.{commands_of}
use Rattle.macho_text.proofs.Writers.{PutsPart}
use Rattle.macho_lines.specs.Layout.{segment_text, segments_text}
use Rattle.macho_lines.proofs.image.write_segments.Given as goal

-- the lines of the items that are left are still to be written
abbrev pub invariant-loop-segment : goal.invariant-loop-segment
invariant-loop-segment g l = PutsPart g.W.Output l.initial.writer l.writer (l.initial.line ++ segments_text l.image (commands_of l.image))
    (l.line ∷ map (λ s. segment_text s.image s.place) l.segment-iterator)
