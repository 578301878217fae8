use Rattle.std.proofs.Common.{map, arith}
use Rattle.macho_fields.specs.Bytes.{bytes_of}
use Rattle.macho_strict.proofs.Claimed.{counted_more, counted_still, span_of}
use Rattle.macho_strict.proofs.overlap.gaps_between.Goals as goal

pub loop-element-preserved-then-element-gt0 : goal.loop-element-preserved-then-element-gt0
loop-element-preserved-then-element-gt0 g c =
    counted_more c.loop-element.yielded c.in-Some.element c.args.wanted (bytes_of c.args.bytes) c.pass.new.self
    (c.pass.ensures c.args.wanted (bytes_of c.args.bytes) (map span_of c.loop-element.yielded) c.loop-element.invariant)

pub loop-element-preserved : goal.loop-element-preserved
loop-element-preserved g c =
    counted_still c.loop-element.yielded c.in-Some.element c.args.wanted (bytes_of c.args.bytes) c.loop-element.counted
    (omega (arith, c.if-element-gt0.false)) c.loop-element.invariant
