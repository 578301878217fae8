use Rattle.std.proofs.Common.{sym, ap, arith}
use Rattle.macho_fields.specs.Bytes.{bytes_of}
use Rattle.macho_opcodes.proofs.StreamWalks.{walk_start, walk_more, walk_ended, walk_stuck}
use Rattle.macho_opcodes.proofs.Within.{step_within}
use Rattle.macho_opcodes.proofs.stream.survey.Goals as goal

pub loop-place-init : goal.loop-place-init
loop-place-init c = rw (c.new-cursor.ensures, c.new-totals.ensures, c.unbroken-survey.ensures) (walk_start c.args.opcodes (bytes_of c.args.stream) c.args.limits.now)

pub returns-in_default : goal.returns-in_default
returns-in_default c =
    walk_stuck _ _ _ _ _ _ _ _ c.loop-place.invariant (omega (arith, c.len.ensures.count, c.loop-place-test.true)) (sym c.in_default.ensures)

pub loop-place-smaller : goal.loop-place-smaller
loop-place-smaller c =
    let within = step_within c.args.opcodes (bytes_of c.args.stream) c.loop-place.place c.in-Some.step c.in-Some.next (sym c.in-Some.ensures) in
    omega (arith, c.len.ensures.count, c.loop-place-test.true)

pub loop-place-preserved : goal.loop-place-preserved
loop-place-preserved c =
    let noted = c.note-totals.ensures in
    walk_more _ _ _ _ _ _ _ _ c.loop-place.invariant c.in-Some.step c.in-Some.next _ _ _ _ (sym c.in-Some.ensures) noted.few noted.short c.follow.ensures
    (ap (λ t. t.pointers) noted.totals) (ap (λ t. t.names) noted.totals) noted.opcode noted.library noted.symbol noted.slot noted.total
    (rw c.len-in-loop-place.ensures.count at noted.names)

pub returns : goal.returns
returns c = walk_ended _ _ _ _ _ _ _ _ c.loop-place.invariant (omega (arith, c.len.ensures.count, c.loop-place-test.false))
