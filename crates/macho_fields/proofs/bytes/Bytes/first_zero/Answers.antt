use Rattle.std.proofs.lemmas.Bool.{false≢true}
use Rattle.macho_fields.proofs.Zeros.{zero_in_part, none_in_part, none_before}
use Rattle.macho_fields.proofs.bytes.Bytes.first_zero.Goals as goal

pub returns-in_err-index-clause-found : goal.returns-in_err-index-clause-found
returns-in_err-index-clause-found c =
    let none = none_in_part c.args.self.bytes.now c.in_ok-within.within.now c.args.span.start c.args.span.len c.in_ok-within.ensures.bytes c.in_err-index.ensures in
    rw c.from_residual-in_err-index.ensures (λ h. absurd (false≢true h), λ h. absurd (none h))

pub returns-clause-zero : goal.returns-clause-zero
returns-clause-zero c = zero_in_part c.args.self.bytes.now c.in_ok-within.within.now _ _ c.in_ok-within.ensures.bytes c.in_ok-index.index c.in_ok-index.ensures.0.high c.in_ok-index.ensures.1

pub returns-clause-first : goal.returns-clause-first
returns-clause-first c = none_before c.args.self.bytes.now c.in_ok-within.within.now _ _ c.in_ok-within.ensures.bytes c.in_ok-index.index c.in_ok-index.ensures
