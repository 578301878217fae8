use Rattle.std.proofs.Common.{arith}
use Rattle.macho_fat.proofs.SharedSpans.{none_sorted, first_found}
use Rattle.macho_fat.proofs.sharing.first_sorted.Goals as goal

pub overflow_cast-k : goal.overflow_cast-k
overflow_cast-k g c = omega (arith, c.in-Some.ensures.0.0, c.in_ok-spans.ensures.few)

pub returns-in_default : goal.returns-in_default
returns-in_default g c = λ span of. none_sorted c.args.table.now span c.in_ok-spans.spans.spans (c.in_ok-spans.ensures.spans span of) c.in_default.ensures

pub returns : goal.returns
returns g c = λ span of.
    first_found c.args.table.now span c.in_ok-spans.spans.spans (c.in_ok-spans.ensures.spans span of) c.in-Some.k c.entry.result c.in-Some.ensures c.entry.ensures
