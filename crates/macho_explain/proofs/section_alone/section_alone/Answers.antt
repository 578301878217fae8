use Rattle.std.proofs.Common.{subst}
use Rattle.macho_fields.specs.Bytes.{bytes_of}
use Rattle.macho_explain.specs.Readers.{IsTakenShown}
use Rattle.macho_explain.proofs.section_alone.section_alone.Goals as goal

pub returns-in_err-at : goal.returns-in_err-at
returns-in_err-at c = rw c.from_residual.ensures (λ s. c.in_err-at.ensures s.1)

pub returns-in_err-image : goal.returns-in_err-image
returns-in_err-image c = rw c.from_residual-in_err-image.ensures (λ s. s.0 c.in_err-image.ensures)

pub taken-requires-clause-section : goal.taken-requires-clause-section
taken-requires-clause-section c = c.in_ok-at.ensures.1

pub taken-requires-clause-segment : goal.taken-requires-clause-segment
taken-requires-clause-segment c = c.in_ok-at.ensures.3

pub taken-requires-clause-of : goal.taken-requires-clause-of
taken-requires-clause-of c = c.in_ok-at.ensures.4

pub returns : goal.returns
returns c = rw c.shows.ensures (c.in_ok-at.ensures.0, subst (λ place. IsTakenShown (bytes_of c.args.sliced.now.held.bytes) place c.taken.result) c.in_ok-at.ensures.2 c.taken.ensures)
