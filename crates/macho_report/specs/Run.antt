-- What a run writes of its input.
use Rattle.std.specs.Prelude.{◌≡◌, ◌⊎◌, ◌↔◌, ℕ, ◌+◌, ◌<◌, ◌≤◌, Bool, List, length, Option, IfSome, Result, IsErrOf, IsTrue, IfErr, IfOk, OnOk}
use Rattle.std.specs.Io.KnownBytes.{IsAtEnd}
use Rattle.macho_fields.specs.declared.rule.Break.{Break}
use Rattle.macho_text.specs.Stream.{TookAtMost, Wrote, WrotePrefix}
use Rattle.macho_text.specs.declared.stream.Input as input
use Rattle.macho_text.specs.declared.stream.Output as output
use Rattle.macho_text.specs.declared.transfer.ReadFault.{ReadFault}
use Rattle.macho_text.specs.declared.transfer.ReadFault.TheVariants as read
use Rattle.macho_lines.specs.Layout.{layout_with}
use Rattle.macho_lines.specs.Text.{break_text}
use Rattle.macho_report.specs.declared.judge.Judge as judge
use Rattle.macho_report.specs.declared.outcome.Outcome.{Outcome}
use Rattle.macho_report.specs.declared.outcome.Outcome.TheVariants.{Accepted, Refused}
use Rattle.macho_report.specs.declared.outcome.RunFault.{RunFault}
use Rattle.macho_report.specs.declared.outcome.RunFault.TheVariants as fault

-- by the judge `who`, the outcome is right for the file, and this is its text
abbrev pub IsReport : {J : Type 0} → judge.Ghosts J → J → List ℕ → Outcome → List ℕ → Type 0
IsReport j who file Accepted text = j.accepts who file × (text ≡ layout_with (j.says who) file)
IsReport j who file Refused text = (b : Break) × j.refuses who file b × (text ≡ break_text b)

-- the input is within the limit, and the text of the outcome, which is right for it, was written
abbrev pub WroteVerdict : {J : Type 0} → judge.Ghosts J → J → Option (List ℕ) → ℕ → Outcome → Option (List ℕ) → Option (List ℕ) → Type 0
WroteVerdict j who input limit outcome old new =
    IfSome input (λ file. (length file ≤ limit) × ((text : List ℕ) × IsReport j who file outcome text × Wrote old new text))

-- the same of a prefix of the text
abbrev pub WroteVerdictPrefix : {J : Type 0} → judge.Ghosts J → J → Option (List ℕ) → ℕ → Option (List ℕ) → Option (List ℕ) → Type 0
WroteVerdictPrefix j who input limit old new =
    IfSome input (λ file. (length file ≤ limit) × ((outcome : Outcome) × (text : List ℕ) × IsReport j who file outcome text × WrotePrefix old new text))

-- A run that reads an input of at most `limit` bytes whole: when each fault of reading comes, and what was taken.
pub record ReadsRight {R T : Type 0} (i : input.Ghosts R) (limit : ℕ) (old new : R) (end : Result T RunFault) : Type 0 where
  pub at_end : OnOk end (IsAtEnd (i.remaining new))
  pub read : IsErrOf end fault.Read ↔ IsTrue (i.has_failed new)
  pub too_long : IsErrOf end fault.TooLong → IfSome (i.remaining old) (λ all. limit < length all)
  pub one_too_many : IsErrOf end fault.TooLong → TookAtMost (limit + 1) (i.remaining old) (i.remaining new)
  pub memory : IsErrOf end fault.Memory → TookAtMost limit (i.remaining old) (i.remaining new)
  pub few_reads : i.reads new ≤ i.reads old + limit + 1

-- A run that reads an input of at most `limit` bytes whole, and writes the text of its verdict.
pub record RunsRight {J R W : Type 0} (j : judge.Ghosts J) (i : input.Ghosts R) (o : output.Ghosts W) (who : J)
    (limit : ℕ) (reader reader' : R) (writer writer' : W) (end : Result Outcome RunFault) : Type 0 where
  -- All of the input was read, or a fault says why not. The outcome is right for it, and exactly its text was written.
  pub verdict : IfOk end (λ outcome. WroteVerdict j who (i.remaining reader) limit outcome (o.contents writer) (o.contents writer'))
  pub input : ReadsRight i limit reader reader' end
  -- Nothing was written but where a write failed.
  pub write : IsErrOf end fault.Write → IsTrue (o.has_failed writer')
  pub prefix : IsErrOf end fault.Write → WroteVerdictPrefix j who (i.remaining reader) limit (o.contents writer) (o.contents writer')
  pub unwritten : IfErr end (λ e. (e ≡ fault.Write) ⊎ (writer' ≡ writer))

-- When a run fails that has read its input: `failed` is whether a write has failed, `in_part` holds where a prefix of the
-- text was written, and `unwritten` where nothing was.
pub record FailsRight {T : Type 0} (end : Result T RunFault) (failed : Bool) (in_part unwritten : Type 0) : Type 0 where
  pub write : IsErrOf end fault.Write → IsTrue failed
  pub prefix : IsErrOf end fault.Write → in_part
  pub faults : IfErr end (λ e. (e ≡ fault.Write) ⊎ ((e ≡ fault.Memory) × unwritten))

-- a fault of reading, as one of the run
abbrev pub run_fault_of : ReadFault → RunFault
run_fault_of read.Read = fault.Read
run_fault_of read.TooLong = fault.TooLong
run_fault_of read.Memory = fault.Memory
