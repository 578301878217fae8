use Rattle.macho_fields.specs.Bytes.{bytes_of}
use Rattle.macho_commands.proofs.ZeroCounts.{Ended}
use Rattle.macho_commands.proofs.strings.strings_end.Given as goal

-- so many strings end here
abbrev pub invariant-loop-string : goal.invariant-loop-string
invariant-loop-string l = Ended (bytes_of l.command) l.size l._string l.end
