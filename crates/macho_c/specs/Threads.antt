-- The thread of an image. (kesvuot.h: kesvuot_find_thread_entry)
use Rattle.std.specs.Prelude.{ℕ, List, Option, None, MatchOption}
use Rattle.macho_commands.specs.Commands.{IsThreadEntry}
use Rattle.macho_rows.specs.Rows.{HasUnbrokenHeaders}
use Rattle.macho_c.specs.Status.{Answers, Tells}

-- the bytes break no rule of the headers, and the first thread names this address, which has a byte of the file that
-- may be executed
abbrev pub NamesThreadEntry : List ℕ → ℕ → Type 0
NamesThreadEntry image entry = HasUnbrokenHeaders image None × IsThreadEntry image entry

-- this address, or no address does
abbrev pub IsThreadEntryOf : List ℕ → Option ℕ → Type 0
IsThreadEntryOf image found =
    MatchOption found ((entry : ℕ) → ¬ NamesThreadEntry image entry) (NamesThreadEntry image)

-- the answer
abbrev pub IsThreadAnswer : List ℕ → ℕ → ℕ → Type 0
IsThreadAnswer image status entry = Tells (IsThreadEntryOf image) (Answers 0 status entry)
