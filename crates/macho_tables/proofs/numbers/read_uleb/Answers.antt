use Rattle.std.proofs.Common.{◌∙◌, sym}
use Rattle.macho_tables.proofs.Digits.{unsigned_digit, unsigned_missing}
use Rattle.macho_tables.proofs.numbers.read_uleb.Goals as goal

pub returns-in_err-first : goal.returns-in_err-first
returns-in_err-first c = c.from_residual.ensures ∙ sym (unsigned_missing _ c.args.place (sym c.in_err-first.ensures))

pub returns-then-first-lt-CONTINUES : goal.returns-then-first-lt-CONTINUES
returns-then-first-lt-CONTINUES c =
    rw c.from.ensures (sym (unsigned_digit _ c.args.place c.in_ok-first.first (sym c.in_ok-first.ensures) c.if-first-lt-CONTINUES.true))
