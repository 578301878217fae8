-- With which status the program ends.
use Rattle.std.specs.Prelude.{ℕ, ⊤, Result, Ok, Err}
use Rattle.macho_trials.specs.declared.refusals.fault.Fault.{Fault}
use Rattle.macho_trials.specs.declared.refusals.fault.Fault.TheVariants as fault

-- the status for how a call ended
abbrev pub status_of : Result ⊤ Fault → ℕ
status_of (Ok _) = 0
status_of (Err (fault.Broken _)) = 0
status_of (Err fault.Changed) = 1
status_of (Err fault.NoCall) = 2
status_of (Err (fault.Run _)) = 3
status_of (Err fault.Memory) = 4
