use Rattle.std.proofs.Common.{◌≡◌, ◌∙◌, ◌<◌, ℕ, ap, sym, subst, arith}
use Rattle.std.proofs.lemmas.Bool.{false≢true}
use Rattle.macho_fields.specs.Bytes.{bytes_of}
use Rattle.macho_fields.specs.declared.header.loader.TheConstants as loader
use Rattle.macho_signature.specs.Signature.{IsDirectoryAt}
use Rattle.macho_signature.specs.Superblobs.{blob_at, blob_count, is_directory_slot}
use Rattle.macho_signature.specs.declared.superblob.Blob.{Blob}
use Rattle.macho_explain.specs.Blobs.{IsRepeatAt}
use Rattle.macho_explain.specs.Wholes.{named_table}
use Rattle.macho_explain.proofs.Blobs.{has_size}
use Rattle.macho_explain.proofs.Wholes.{lacks, of_whole}
use Rattle.macho_explain.proofs.seal.directory_repeated.Goals.{then-first-index-via-then-first-index, then-first-index-via-else-first-index+then-not-is_directory}
use Rattle.macho_explain.proofs.seal.directory_repeated.Goals as goal

pub returns-in_err-signature : goal.returns-in_err-signature
returns-in_err-signature c =
    let image = bytes_of c.args.sliced.now.held.bytes in
    rw c.from_residual.ensures (lacks image (named_table image loader.LC_CODE_SIGNATURE) IsRepeatAt c.args.sliced.now.place c.in_err-signature.ensures)

pub returns-in_err-at : goal.returns-in_err-at
returns-in_err-at c =
    let image = bytes_of c.args.sliced.now.held.bytes in
    let found = c.in_ok-signature.signature in
    let (apart, none) = c.in_err-at.ensures in
    rw c.from_residual-in_err-at.ensures (λ s.
    let (offset, at, (good, (k, less, here, repeats))) = of_whole image (named_table image loader.LC_CODE_SIGNATURE) found.table.span (bytes_of found.bytes) c.in_ok-signature.ensures IsRepeatAt c.args.sliced.now.place s.1 in
    none k less (has_size (bytes_of found.bytes) good.superblob) (omega (arith, at, here)))

pub returns-in_err-later : goal.returns-in_err-later
returns-in_err-later c =
    let image = bytes_of c.args.sliced.now.held.bytes in
    let found = c.in_ok-signature.signature in
    let signature = bytes_of found.bytes in
    let index = c.in-Entry.index in
    let there = (rw c.in-Entry.is at c.in_ok-at.ensures).1 in
    rw c.from_residual-in_err-later.ensures (λ s.
    let (offset, at, (good, (k, less, here, repeats))) = of_whole image (named_table image loader.LC_CODE_SIGNATURE) found.table.span signature c.in_ok-signature.ensures IsRepeatAt c.args.sliced.now.place s.1 in
    let same : k ≡ index = omega (arith, at, here, there) in
    let listed = subst (λ (n : ℕ). n < blob_count signature) same less in
    c.in_err-later.ensures.none (good.superblob, listed, λ i below. good.blobs i (omega (arith, below, listed))))

pub returns-then-first-index : goal.returns-then-first-index
returns-then-first-index c = λ s.
    let image = bytes_of c.args.sliced.now.held.bytes in
    let found = c.in_ok-signature.signature in
    let signature = bytes_of found.bytes in
    let index = c.in-Entry.index in
    let later = c.in_ok-later.later in
    let there = (rw c.in-Entry.is at c.in_ok-at.ensures).1 in
    let (offset, at, (good, (k, less, here, (directory, (j, below, slots))))) = of_whole image (named_table image loader.LC_CODE_SIGNATURE) found.table.span signature c.in_ok-signature.ensures IsRepeatAt c.args.sliced.now.place s.1 in
    let same : k ≡ index = omega (arith, at, here, there) in
    let slot : (blob_at signature index).slot ≡ later.slot = ap (λ (b : Blob). b.slot) (sym c.in_ok-later.ensures.blob) in
    elim c.then-first-index.branch [
      | then-first-index-via-then-first-index w ↦ (
          let past = w.if-first-index.true in
          c.in_ok-first.ensures.first j (omega (arith, past, below, same)) (subst (λ (n : ℕ). (blob_at signature j).slot ≡ (blob_at signature n).slot) same slots ∙ slot)
          )
      | then-first-index-via-else-first-index+then-not-is_directory w ↦ (
          let is = ap is_directory_slot (sym slot) ∙ subst (IsDirectoryAt signature) same directory in
          false≢true (sym w.if-not-is_directory.true ∙ (w.is_directory.ensures ∙ is))
          )
    ]
