-- With which status the program ends.
use Rattle.std.specs.Prelude.{ℕ, Result, Ok, Err}
use Rattle.macho_report.specs.declared.address.WhereOutcome.{WhereOutcome}
use Rattle.macho_report.specs.declared.address.WhereOutcome.TheVariants as where_outcome
use Rattle.macho_report.specs.declared.outcome.Outcome.{Outcome}
use Rattle.macho_report.specs.declared.outcome.Outcome.TheVariants as outcome
use Rattle.macho_report.specs.declared.outcome.RunFault.{RunFault}
use Rattle.macho_report.specs.declared.outcome.RunFault.TheVariants as fault
use Rattle.macho_program.specs.declared.program.Found.{Found}
use Rattle.macho_program.specs.declared.program.Found.TheVariants as found
use Rattle.macho_program.specs.declared.program.ProgramFault.{ProgramFault}
use Rattle.macho_program.specs.declared.program.ProgramFault.TheVariants as program
use Rattle.macho_words.specs.declared.words.WordFault.TheVariants as words

-- the status for a fault of a run
abbrev pub fault_status_of : RunFault → ℕ
fault_status_of fault.Read = 3
fault_status_of fault.TooLong = 3
fault_status_of fault.Write = 3
fault_status_of fault.Memory = 4

-- the status of `check`
abbrev pub check_status_of : Result Outcome RunFault → ℕ
check_status_of (Ok outcome.Accepted) = 0
check_status_of (Ok outcome.Refused) = 1
check_status_of (Err fault) = fault_status_of fault

-- the status of `where`
abbrev pub where_status_of : Result WhereOutcome RunFault → ℕ
where_status_of (Ok where_outcome.Told) = 0
where_status_of (Ok where_outcome.Refused) = 1
where_status_of (Ok where_outcome.NoImage) = 2
where_status_of (Err fault) = fault_status_of fault

-- the status of the whole program
abbrev pub exit_of : Result Found ProgramFault → ℕ
exit_of (Ok (found.Check outcome)) = check_status_of (Ok outcome)
exit_of (Ok (found.Where outcome)) = where_status_of (Ok outcome)
exit_of (Ok found.Shown) = 0
exit_of (Err (program.Words words.Usage)) = 2
exit_of (Err (program.Words words.BadNumber)) = 2
exit_of (Err (program.Words words.Memory)) = 4
exit_of (Err (program.Run fault)) = fault_status_of fault
