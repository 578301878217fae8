use Rattle.std.proofs.Common.{List, ℕ, subst}
use Rattle.macho_c.specs.Threads.{IsThreadEntryOf}
use Rattle.macho_c.proofs.thread.kesvuot_find_thread_entry.Goals as goal

pub returns : goal.returns
returns c = (c.entry_of.result, subst (λ (bytes : List ℕ). IsThreadEntryOf bytes c.entry_of.result) c.held.ensures.bytes c.entry_of.ensures, c.answer.ensures)
