-- The lines on standard error. Each ends with one line feed.
use Rattle.std.specs.Prelude.{◌≡◌, ℕ, List, Option, Some, None, Result, Ok, Err, codes}
use Rattle.macho_text.specs.Stream.{WritesUnlessFailed}
use Rattle.macho_text.specs.declared.stream.Output as output
use Rattle.macho_lines.specs.Text.{words_line}
use Rattle.macho_report.specs.Text.{run_fault_reason}
use Rattle.macho_report.specs.declared.address.WhereOutcome.TheVariants.{NoImage}
use Rattle.macho_words.specs.declared.words.WordFault.{WordFault}
use Rattle.macho_words.specs.declared.words.WordFault.TheVariants as words
use Rattle.macho_program.specs.declared.program.Found.{Found}
use Rattle.macho_program.specs.declared.program.Found.TheVariants as found
use Rattle.macho_program.specs.declared.program.ProgramFault.{ProgramFault}
use Rattle.macho_program.specs.declared.program.ProgramFault.TheVariants as program

-- what the words of macho-check may be
abbrev pub check_or_where_usage : List ℕ
check_or_where_usage = codes " check FILE | where FILE SLICE ADDRESS"

-- the line of a fault of a program with this name, whose words may be these: `usage: `, the name and the words; or the
-- name, `: ` and what is wrong
abbrev pub word_fault_line : List ℕ → List ℕ → WordFault → List ℕ
word_fault_line name usage words.Usage = words_line (codes "usage: ") name usage
word_fault_line name usage words.BadNumber = words_line name (codes ": ") (codes "bad number")
word_fault_line name usage words.Memory = words_line name (codes ": ") (codes "out of memory")

abbrev pub fault_line : List ℕ → List ℕ → ProgramFault → List ℕ
fault_line name usage (program.Words fault) = word_fault_line name usage fault
fault_line name usage (program.Run fault) = words_line name (codes ": ") (run_fault_reason fault)

-- the line for how a program ended: none where the text of what was found stands on standard output
abbrev pub end_line : List ℕ → List ℕ → Result Found ProgramFault → Option (List ℕ)
end_line name usage (Ok (found.Where NoImage)) =
    Some (words_line name (codes ": ") (codes "no such image"))
end_line name usage (Ok _) = None
end_line name usage (Err fault) = Some (fault_line name usage fault)

-- the line was written where there is one, or a prefix of it where the output has failed, and otherwise nothing
abbrev pub SaysLine : {E : Type 0} → output.Ghosts E → E → E → Option (List ℕ) → Type 0
SaysLine o old new (Some text) =
    WritesUnlessFailed (o.has_failed new) (o.contents old) (o.contents new) text
SaysLine o old new None = new ≡ old
