use Rattle.std.proofs.Common.{◌∙◌, sym}
use Rattle.std.proofs.lemmas.Option.{none-some}
use Rattle.macho_explain.proofs.seal.other_page.Goals as goal

pub returns-in_err-index-clause-none : goal.returns-in_err-index-clause-none
returns-in_err-index-clause-none c = rw c.from_residual.ensures (λ (k, less, at, other). none-some k (sym c.in_err-index.was ∙ c.page_index.ensures.only k less at))

pub returns-in_err-index-clause-first : goal.returns-in_err-index-clause-first
returns-in_err-index-clause-first c = rw c.from_residual.ensures tt

pub returns-in_err-index-clause-shown : goal.returns-in_err-index-clause-shown
returns-in_err-index-clause-shown c = rw c.from_residual.ensures tt

pub returns-in_err-message-clause-first : goal.returns-in_err-message-clause-first
returns-in_err-message-clause-first c = rw c.from_residual-in_err-message.ensures tt

pub returns-in_err-message-clause-shown : goal.returns-in_err-message-clause-shown
returns-in_err-message-clause-shown c = rw c.from_residual-in_err-message.ensures tt

pub returns-in_err-hash-clause-first : goal.returns-in_err-hash-clause-first
returns-in_err-hash-clause-first c = rw c.from_residual-in_err-hash.ensures tt

pub returns-in_err-hash-clause-shown : goal.returns-in_err-hash-clause-shown
returns-in_err-hash-clause-shown c = rw c.from_residual-in_err-hash.ensures tt
