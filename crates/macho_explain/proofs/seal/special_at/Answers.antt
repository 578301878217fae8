use Rattle.std.proofs.Common.{◌≡◌, ◌<◌, Some, ap, arith, subst}
use Rattle.macho_fields.specs.Bytes.{bytes_of}
use Rattle.macho_signature.specs.Superblobs.{blob_at}
use Rattle.macho_signature.specs.declared.superblob.Blob.{Blob}
use Rattle.macho_signature.specs.declared.superblob.Superblob.{Superblob}
use Rattle.macho_explain.specs.declared.seal.Hashed.TheVariants.{Special}
use Rattle.macho_explain.proofs.ShownSeals.{same_blob}
use Rattle.macho_explain.proofs.seal.special_at.Goals as goal

pub returns-in_err-blob-clause-only : goal.returns-in_err-blob-clause-only
returns-in_err-blob-clause-only c =
    let listed = subst (λ (s : Superblob). c.loop-index.index < s.count) c.in_ok-index-end.ensures.1 c.loop-index-test.true in
    λ good k less here special. absurd (c.in_err-blob.ensures.none (good.superblob, listed, λ i below. good.blobs i (omega (arith, below, listed))))

pub returns-then-is_special_slot-clause-only : goal.returns-then-is_special_slot-clause-only
returns-then-is_special_slot-clause-only c = λ good k less here special.
    let signature = bytes_of c.args.signature.now.bytes in
    let index = c.loop-index.index in
    let blob = c.in_ok-blob.blob in
    let is : blob ≡ blob_at signature index = c.in_ok-blob.ensures.blob in
    let there : blob.offset ≡ (blob_at signature index).offset = ap (λ (b : Blob). b.offset) is in
    let at : blob.offset ≡ c.args.offset = omega (arith, c.from.ensures, c.if-from-offset.true) in
    let same : index ≡ k = same_blob signature good index k c.in_ok-blob.ensures.listed less (omega (arith, at, there, here)) in
    subst (λ n. Some (Special index blob) ≡ Some (Special n (blob_at signature n))) same (ap (λ (b : Blob). Some (Special index b)) is)
