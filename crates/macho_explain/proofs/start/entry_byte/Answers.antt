use Rattle.std.proofs.Common.{◌≡◌, ◌↔◌, ◌∙◌, ℕ, Option, Some, subst, sym}
use Rattle.std.proofs.lemmas.Option.{none-some}
use Rattle.macho_fields.specs.Bytes.{bytes_of}
use Rattle.macho_explain.specs.Readers.{IsEntryAddress}
use Rattle.macho_explain.proofs.Begins.{of_address}
use Rattle.macho_explain.proofs.start.entry_byte.Goals as goal

pub returns-in_err-entry_address : goal.returns-in_err-entry_address
returns-in_err-entry_address c =
    rw c.from_residual.ensures (λ byte (address, is, at). none-some address (sym c.in_err-entry_address.was ∙ (c.entry_address.ensures address).1 is))

pub returns : goal.returns
returns c =
    let image = bytes_of c.args.sliced.now.held.bytes in
    let place = c.args.sliced.now.place in
    of_address image place c.in_ok-entry_address.field-0
    (λ a. subst (λ (o : Option ℕ). (o ≡ Some a) ↔ IsEntryAddress image place a) c.in_ok-entry_address.was (c.entry_address.ensures a)) c.byte_of.result c.byte_of.ensures
