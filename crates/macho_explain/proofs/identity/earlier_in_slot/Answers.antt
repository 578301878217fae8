use Rattle.std.proofs.Common.{◌∙◌, ◌<◌, ap, arith, sym}
use Rattle.macho_fields.specs.Bytes.{bytes_of}
use Rattle.macho_fields.proofs.Options.{of_some}
use Rattle.macho_seals.specs.Signature.{HaveSameSlot}
use Rattle.macho_signature.specs.declared.superblob.Blob.{Blob}
use Rattle.macho_explain.proofs.identity.earlier_in_slot.Goals as goal

pub returns-in_err-first : goal.returns-in_err-first
returns-in_err-first c = rw c.from_residual.ensures (λ slot less good (j, below, same).
    c.in_err-first.ensures.none good j (omega (arith, below, less)) (same ∙ sym slot))

pub returns-then-first-index : goal.returns-then-first-index
returns-then-first-index c = λ slot less good (j, below, same).
    c.in_ok-first.ensures.first j (omega (arith, below, c.if-first-index.true)) (same ∙ sym slot)

pub returns : goal.returns
returns c = λ slot less.
    let signature = bytes_of c.args.signature.now.bytes in
    of_some (λ j. (j < c.args.index) × HaveSameSlot signature j c.args.index) c.blob_part.result.index c.in_ok-first.first c.blob_part.ensures
    (c.if-first-index.false, ap (λ (b : Blob). b.slot) (sym c.in_ok-first.ensures.blob) ∙ (c.in_ok-first.ensures.slot ∙ slot))
