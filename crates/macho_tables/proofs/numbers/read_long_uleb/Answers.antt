use Rattle.std.proofs.Common.{◌∙◌, sym, arith}
use Rattle.macho_tables.proofs.Digits.{unsigned_none, unsigned_some, unsigned_large}
use Rattle.macho_tables.proofs.numbers.read_long_uleb.Goals as goal

pub returns-in_err-encoded : goal.returns-in_err-encoded
returns-in_err-encoded c = c.from_residual.ensures ∙ sym (unsigned_none _ c.args.place c.in_err-encoded.ensures)

pub returns-in_default : goal.returns-in_default
returns-in_default c =
    let (bytes, some, value, scale, next) = c.in_ok-encoded.ensures in
    sym (unsigned_large _ c.args.place bytes some (rw (← value) (omega (arith, c.in_default.ensures))))

pub returns : goal.returns
returns c =
    let (bytes, some, value, scale, next) = c.in_ok-encoded.ensures in
    rw (c.in-Ok.ensures.1, value, next) (sym (unsigned_some _ c.args.place bytes some (rw (← value) c.in-Ok.ensures.0)))
