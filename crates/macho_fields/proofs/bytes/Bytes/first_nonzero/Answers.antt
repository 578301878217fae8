use Rattle.std.proofs.Common.{length, arith}
use Rattle.std.proofs.lemmas.Bool.{false≢true}
use Rattle.macho_fields.specs.NonZero.{HasNonZero}
use Rattle.macho_fields.proofs.NonZeros.{none_in_part, none_in_span}
use Rattle.macho_fields.proofs.bytes.Bytes.first_nonzero.Goals as goal

pub returns-in_err-index-clause-found : goal.returns-in_err-index-clause-found
returns-in_err-index-clause-found c =
    let within = c.in_ok-within.within.now in
    let none : ¬ HasNonZero within 0 (length within) = λ some. false≢true (c.in_err-index.ensures.found.1 some) in
    let nowhere = none_in_span c.args.self.bytes.now within c.args.span.start c.args.span.len c.in_ok-within.ensures.bytes none in
    rw c.from_residual-in_err-index.ensures (λ h. absurd (false≢true h), λ h. absurd (nowhere h))

pub returns-clause-first : goal.returns-clause-first
returns-clause-first c =
    none_in_part c.args.self.bytes.now c.in_ok-within.within.now _ _ c.in_ok-within.ensures.bytes c.in_ok-index.index (let inside = c.in_ok-index.ensures.nonzero.0 in omega arith) c.in_ok-index.ensures.first
