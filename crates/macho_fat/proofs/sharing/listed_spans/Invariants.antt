use Rattle.std.proofs.Common.{◌≡◌}
use Rattle.macho_fields.specs.Universal.{entry_count}
use Rattle.macho_fat.proofs.SharedSpans.{AreReturned}
use Rattle.macho_fat.proofs.sharing.listed_spans.Given as goal

-- the list has the spans of the entries before this one, and the room that it had at first
abbrev pub invariant-loop-k : goal.invariant-loop-k
invariant-loop-k g l = AreReturned (goal.F-post g l.span_of) l.table l.k l.list.spans × (l.list.capacity ≡ entry_count l.table)
