use Rattle.std.proofs.Common.{◌∙◌, sym, arith}
use Rattle.macho_tables.proofs.FunctionStarts.{next_none, next_some, next_zero, next_past, read_size}
use Rattle.macho_tables.proofs.function_starts.next_start.Goals as goal

pub returns-in_err-distance-clause-next : goal.returns-in_err-distance-clause-next
returns-in_err-distance-clause-next c = c.from_residual.ensures ∙ sym (next_none _ c.args.address (sym c.in_err-distance.ensures))

pub returns-then-distance-eq0-clause-next : goal.returns-then-distance-eq0-clause-next
returns-then-distance-eq0-clause-next c =
    sym (next_zero _ c.args.address c.in_ok-distance.distance c.in_ok-distance.size (sym c.in_ok-distance.ensures) c.if-distance-eq0.true)

pub returns-in_err-start-clause-next : goal.returns-in_err-start-clause-next
returns-in_err-start-clause-next c =
    c.from_residual-in_err-start.ensures
    ∙ sym (next_past _ c.args.address c.in_ok-distance.distance c.in_ok-distance.size (sym c.in_ok-distance.ensures) (let past = c.in_err-start.ensures in omega (arith, past)))

pub returns-clause-next : goal.returns-clause-next
returns-clause-next c =
    let (fits, is) = c.in_ok-start.ensures in
    rw is (sym (next_some _ c.args.address c.in_ok-distance.distance c.in_ok-distance.size (sym c.in_ok-distance.ensures) (let some = c.if-distance-eq0.false in omega (arith, some)) fits))

pub returns-clause-size : goal.returns-clause-size
returns-clause-size c = read_size _ _ (sym c.in_ok-distance.ensures)
