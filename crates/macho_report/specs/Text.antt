-- What the lines of faults say.
use Rattle.std.specs.Prelude.{ℕ, List, codes}
use Rattle.macho_report.specs.declared.outcome.RunFault.{RunFault}
use Rattle.macho_report.specs.declared.outcome.RunFault.TheVariants as fault

-- what is wrong, as the line of a fault says it
abbrev pub run_fault_reason : RunFault → List ℕ
run_fault_reason fault.Read = codes "read failed"
run_fault_reason fault.TooLong = codes "more than 4294967296 bytes"
run_fault_reason fault.Write = codes "write failed"
run_fault_reason fault.Memory = codes "out of memory"
