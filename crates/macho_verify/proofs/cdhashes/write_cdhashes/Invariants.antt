use Rattle.std.proofs.Common.{◌∷◌, ◌++◌, map}
use Rattle.macho_text.proofs.Writers.{PutsPart}
use Rattle.macho_verify.specs.Cdhashes.{cdhashes_text, digest_line}
use Rattle.macho_verify.proofs.cdhashes.write_cdhashes.Given as goal

-- the lines of the code directories that are left are still to be written
abbrev pub invariant-loop-digest : goal.invariant-loop-digest
invariant-loop-digest g l =
    PutsPart g.W.Output l.initial.writer l.writer (l.initial.line ++ cdhashes_text l.image) (l.line ∷ map digest_line l.digest-iterator)
