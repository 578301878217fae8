use Rattle.macho_alike.proofs.SaidNames.{span_inside}
use Rattle.macho_alike.proofs.SaidOrders.{both_marked}
use Rattle.macho_alike.proofs.indirects.bytes_shared.Goals as goal

pub is_same_name-requires-clause-one : goal.is_same_name-requires-clause-one
is_same_name-requires-clause-one c = rw (c.span_of-first.ensures, c.bytes.ensures.bytes) (span_inside c.args.image.now c.args.one)

pub is_same_name-requires-clause-other : goal.is_same_name-requires-clause-other
is_same_name-requires-clause-other c = rw (c.span_of-second.ensures, c.bytes-2.ensures.bytes) (span_inside c.args.image.now c.args.other)

pub returns-then-is_same_name : goal.returns-then-is_same_name
returns-then-is_same_name c = λ _. (
  rw (c.span_of-first.ensures, c.bytes.ensures.bytes, c.span_of-second.ensures, c.bytes-2.ensures.bytes) at (c.is_same_name.ensures.0 c.if-is_same_name.true),
  both_marked c.args.one c.args.other (rw c.if-is_none.false at c.is_none.ensures) (rw c.if-is_none-2.false at c.is_none-else-is_none.ensures),
)
