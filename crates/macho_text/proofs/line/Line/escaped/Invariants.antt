use Rattle.std.proofs.Common.{◌∷◌, ◌++◌, length, map}
use Rattle.macho_text.specs.Stream.{joined}
use Rattle.macho_text.specs.Name.{escaped}
use Rattle.macho_text.proofs.Writers.{PutsPart}
use Rattle.macho_text.proofs.line.Line.escaped.Given as goal

-- the texts of the rest are left
abbrev pub invariant-loop-first : goal.invariant-loop-first
invariant-loop-first g l = PutsPart g.W.Output l.initial.writer l.writer
    (l.initial.self ++ joined (map escaped l.initial.name)) (l.self ∷ map escaped l.rest)

abbrev pub decreases-loop-first : goal.decreases-loop-first
decreases-loop-first g l = length l.rest
