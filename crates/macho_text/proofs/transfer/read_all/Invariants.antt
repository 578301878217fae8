use Rattle.std.proofs.Common.{◌+◌, ◌-◌, ◌≤◌, vec_len, IsTrue}
use Rattle.std.specs.Io.KnownBytes.{Consumes}
use Rattle.macho_text.proofs.transfer.read_all.Given as goal

abbrev pub invariant-loop-piece : goal.invariant-loop-piece
invariant-loop-piece g l = record {
  within_limit : vec_len l.bytes ≤ l.limit;
  taken : Consumes (g.R.Input.remaining l.initial.reader) (g.R.Input.remaining l.reader) l.bytes.items;
  stays_failed : IsTrue (g.R.Input.has_failed l.initial.reader) → IsTrue (g.R.Input.has_failed l.reader);
  few_reads : g.R.Input.reads l.reader ≤ g.R.Input.reads l.initial.reader + vec_len l.bytes;
}

-- the room that is left
abbrev pub decreases-loop-piece : goal.decreases-loop-piece
decreases-loop-piece g l = l.limit - vec_len l.bytes
