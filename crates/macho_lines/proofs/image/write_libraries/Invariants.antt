use Rattle.std.proofs.Common.{◌∷◌, ◌++◌, map}
use Rattle.macho_fields.specs.Image.{commands_of}
use Rattle.macho_text.proofs.Writers.{PutsPart}
use Rattle.macho_lines.specs.Layout.{libraries_text}
use Rattle.macho_lines.specs.LineParts.{linked_text}
use Rattle.macho_lines.proofs.image.write_libraries.Given as goal

-- the lines of the items that are left are still to be written
abbrev pub invariant-loop-library : goal.invariant-loop-library
invariant-loop-library g l = PutsPart g.W.Output l.initial.writer l.writer (l.initial.line ++ libraries_text l.image (commands_of l.image))
    (l.line ∷ map linked_text l.library-iterator)
