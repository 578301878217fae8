use Rattle.std.proofs.Common.{length, take, ◌-◌, ◌≡◌, ◌<◌, ◌≤◌, IsTrue}
use Rattle.macho_text.specs.Stream.{Wrote}
use Rattle.macho_text.proofs.transfer.write_all.Given as goal

abbrev pub invariant-loop-written : goal.invariant-loop-written
invariant-loop-written g l = record {
  in_text : l.written ≤ length l.text;
  wrote : Wrote (g.W.Output.contents l.initial.writer) (g.W.Output.contents l.writer) (take l.written l.text);
  same : g.W.Output.has_failed l.writer ≡ g.W.Output.has_failed l.initial.writer;
  untouched : l.written ≡ 0 → l.writer ≡ l.initial.writer;
  working : 0 < l.written → ¬ IsTrue (g.W.Output.has_failed l.initial.writer);
}

abbrev pub decreases-loop-written : goal.decreases-loop-written
decreases-loop-written g l = length l.text - l.written
