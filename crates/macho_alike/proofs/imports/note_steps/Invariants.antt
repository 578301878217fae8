use Rattle.std.proofs.Common.{◌-◌, length}
use Rattle.macho_alike.proofs.LookUps.{IsWalked}
use Rattle.macho_alike.proofs.imports.note_steps.Given as goal

-- what the opcodes before the place look up is noted
abbrev pub invariant-loop-place : goal.invariant-loop-place
invariant-loop-place g l = IsWalked l.image.bytes.now g.N.Notes.are_of l.one l.start l.stream.bytes.now l.initial.notes l.place l.cursor l.aim l.notes l.last

abbrev pub decreases-loop-place : goal.decreases-loop-place
decreases-loop-place g l = length l.stream.bytes.now - l.place
