use Rattle.std.proofs.Common.{◌∷◌, ◌++◌, map}
use Rattle.macho_fields.specs.Image.{commands_of}
use Rattle.macho_text.proofs.Writers.{PutsPart}
use Rattle.macho_lines.specs.Layout.{builds_text}
use Rattle.macho_lines.specs.Line.{build_line}
use Rattle.macho_lines.proofs.image.write_builds.Given as goal

-- the lines of the items that are left are still to be written
abbrev pub invariant-loop-build : goal.invariant-loop-build
invariant-loop-build g l = PutsPart g.W.Output l.initial.writer l.writer (l.initial.line ++ builds_text l.image (commands_of l.image))
    (l.line ∷ map (λ b. build_line b.platform b.minos b.sdk) l.build-iterator)
