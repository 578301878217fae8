use Rattle.std.proofs.Common.{◌-◌, length}
use Rattle.macho_alike.proofs.BindWalks.{IsRead}
use Rattle.macho_alike.proofs.binds.read_stream.Given as goal

-- the binds of the opcodes before the place were added
abbrev pub invariant-loop-place : goal.invariant-loop-place
invariant-loop-place l = IsRead l.one l.start l.stream.bytes.now l.initial.binds.items l.place l.cursor l.aim l.binds.items

abbrev pub decreases-loop-place : goal.decreases-loop-place
decreases-loop-place l = length l.stream.bytes.now - l.place
