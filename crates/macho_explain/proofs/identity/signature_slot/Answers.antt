use Rattle.std.proofs.Common.{◌≡◌, ◌∙◌, ◌<◌, ℕ, ap, inl, inr, subst, arith}
use Rattle.macho_fields.specs.Bytes.{bytes_of}
use Rattle.macho_fields.specs.declared.header.loader.TheConstants as loader
use Rattle.macho_signature.specs.Superblobs.{big_word, blob_count}
use Rattle.macho_signature.specs.declared.superblob.Blob.{Blob}
use Rattle.macho_explain.specs.Identities.{IsSlotPlace}
use Rattle.macho_explain.specs.Wholes.{named_table}
use Rattle.macho_explain.proofs.Blobs.{has_size}
use Rattle.macho_explain.proofs.Wholes.{lacks, of_whole}
use Rattle.macho_explain.proofs.identity.signature_slot.Goals as goal

pub returns-in_err-signature : goal.returns-in_err-signature
returns-in_err-signature c =
    let image = bytes_of c.args.sliced.now.held.bytes in
    rw c.from_residual.ensures (lacks image (named_table image loader.LC_CODE_SIGNATURE) IsSlotPlace c.args.sliced.now.place c.in_err-signature.ensures)

pub returns-in_err-at : goal.returns-in_err-at
returns-in_err-at c =
    let image = bytes_of c.args.sliced.now.held.bytes in
    let found = c.in_ok-signature.signature in
    let (apart, none) = c.in_err-at.ensures in
    rw c.from_residual-in_err-at.ensures (λ s.
    let (offset, at, (good, (k, less, here, any))) = of_whole image (named_table image loader.LC_CODE_SIGNATURE) found.table.span (bytes_of found.bytes) c.in_ok-signature.ensures IsSlotPlace c.args.sliced.now.place s.1 in
    none k less (has_size (bytes_of found.bytes) good.superblob) (omega (arith, at, here)))

pub returns-in_err-blob : goal.returns-in_err-blob
returns-in_err-blob c =
    let image = bytes_of c.args.sliced.now.held.bytes in
    let found = c.in_ok-signature.signature in
    let signature = bytes_of found.bytes in
    let index = c.in-Entry.index in
    let there = (rw c.in-Entry.is at c.in_ok-at.ensures).1 in
    rw c.from_residual-in_err-blob.ensures (λ s.
    let (offset, at, (good, (k, less, here, any))) = of_whole image (named_table image loader.LC_CODE_SIGNATURE) found.table.span signature c.in_ok-signature.ensures IsSlotPlace c.args.sliced.now.place s.1 in
    let same : k ≡ index = omega (arith, at, here, there) in
    let listed = subst (λ (n : ℕ). n < blob_count signature) same less in
    c.in_err-blob.ensures.none (good.superblob, listed, λ i below. good.blobs i (omega (arith, below, listed))))

pub returns-in_err-magic : goal.returns-in_err-magic
returns-in_err-magic c =
    let image = bytes_of c.args.sliced.now.held.bytes in
    let found = c.in_ok-signature.signature in
    let signature = bytes_of found.bytes in
    let index = c.in-Entry.index in
    let blob = c.in_ok-blob.blob in
    let there = (rw c.in-Entry.is at c.in_ok-at.ensures).1 in
    let inside = c.in_ok-blob.ensures.inside in
    let short : blob.length < 8 = omega (arith, c.in_err-magic.ensures, c.from.ensures, inside) in
    rw c.from_residual-in_err-magic.ensures (λ s.
    let (offset, at, (good, (k, less, here, any))) = of_whole image (named_table image loader.LC_CODE_SIGNATURE) found.table.span signature c.in_ok-signature.ensures IsSlotPlace c.args.sliced.now.place s.1 in
    good.blobs index c.in_ok-blob.ensures.listed (inr (inr (inl (subst (λ (b : Blob). b.length < 8) c.in_ok-blob.ensures.blob short)))))

pub returns : goal.returns
returns c =
    let found = c.in_ok-signature.signature in
    let signature = bytes_of found.bytes in
    let index = c.in-Entry.index in
    let (spot, there) = rw c.in-Entry.is at c.in_ok-at.ensures in
    let is = c.in_ok-blob.ensures.blob in
    let slot = ap (λ (b : Blob). b.slot) is in
    let magic = c.in_ok-magic.ensures ∙ ap (big_word signature) (c.from.ensures ∙ ap (λ (b : Blob). b.offset) is) in
    rw (c.shows.ensures, c.alone.ensures) (
      spot,
      (
        found.table.span,
        signature,
        c.in_ok-signature.ensures,
        (
          index,
          there,
          (c.from-2.ensures ∙ slot, c.from-3.ensures ∙ magic, c.earlier_in_slot.ensures slot c.in_ok-blob.ensures.listed),
        ),
      ),
    )
