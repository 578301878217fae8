use Rattle.std.proofs.Common.{arith}
use Rattle.macho_strict.proofs.Claimed.{listed_still}
use Rattle.macho_strict.proofs.by_start.occupied_list.Goals as goal

pub loop-element-preserved : goal.loop-element-preserved
loop-element-preserved g c = record {
  spans = listed_still c.loop-element.yielded c.in-Some.element c.loop-element.list.spans (omega (arith, c.if-element-gt0.false)) c.loop-element.invariant.spans;
  room = c.loop-element.invariant.room;
}
