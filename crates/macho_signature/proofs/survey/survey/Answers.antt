use Rattle.std.proofs.Common.{◌≡◌, ◌<◌, sym, ap, ◌∙◌, subst, arith, Some}
use Rattle.macho_fields.specs.Bytes.{bytes_of}
use Rattle.macho_signature.specs.Superblobs.{blob_at, blob_count, entry_offset, blob_end, least_offset, IsMisplacedBlob, IsBadBlob, AreGoodBlobs}
use Rattle.macho_signature.specs.Surveys.{AreDirectories, AreLeastInSignature}
use Rattle.macho_signature.specs.declared.superblob.Superblob.{Superblob}
use Rattle.macho_signature.proofs.Surveys.{directories_none, directories_next, least_next, blobs_next, first_bad_blob, good_blobs}
use Rattle.macho_signature.proofs.survey.survey.Goals as goal

pub loop-index-init : goal.loop-index-init
loop-index-init c = record {
  least = c.index_end-least.ensures ∙ ap (λ (s : Superblob). entry_offset s.count) c.in-Some.ensures.1;
  blobs = λ k less. absurd (omega (arith, less));
  directories = subst (AreDirectories c.args.start (bytes_of c.args.signature) 0) (sym c.none-directories.ensures) (directories_none c.args.start (bytes_of c.args.signature));
}

pub returns-in_default-blob : goal.returns-in_default-blob
returns-in_default-blob c =
    let signature = bytes_of c.args.signature in
    let k = c.loop-index.index in
    let survey = c.with_bad_blob-in_default-blob in
    let less : k < blob_count signature = subst (λ (s : Superblob). k < s.count) c.in-Some.ensures.1 c.loop-index-test.true in
    let bad : IsMisplacedBlob c.in-Some.superblob c.loop-index.least (blob_at signature k) = c.in_default-blob.ensures in
    let here : IsMisplacedBlob c.in-Some.superblob (least_offset signature k) (blob_at signature k) = subst (λ least. IsMisplacedBlob c.in-Some.superblob least (blob_at signature k)) c.loop-index.invariant.least bad in
    first_bad_blob c.args.start signature c.in-Some.ensures.0 k less
    (subst (λ (s : Superblob). IsMisplacedBlob s (least_offset signature k) (blob_at signature k)) c.in-Some.ensures.1 here) c.loop-index.invariant.blobs
    survey.result (survey.ensures.blob ∙ ap (λ n. Some n) c.entry_offset.ensures) survey.ensures.directory survey.ensures.whole

pub loop-index-preserved : goal.loop-index-preserved
loop-index-preserved c =
    let signature = bytes_of c.args.signature in
    let k = c.loop-index.index in
    let is : c.in-Some-blob.blob ≡ blob_at signature k = c.in-Some-blob.ensures.1 in
    let good : ¬ IsBadBlob signature k = (λ bad.
    c.in-Some-blob.ensures.0
    (rw (is, c.loop-index.invariant.least, c.in-Some.ensures.1) bad)) in
    record {
      least = c.end-least.ensures ∙ ap blob_end is ∙ sym (least_next signature k);
      blobs = blobs_next signature k c.loop-index.invariant.blobs good;
      directories = directories_next c.args.start signature k c.loop-index.directories c.note.new.self c.loop-index.invariant.directories c.note.ensures;
    }

pub returns : goal.returns
returns c =
    let signature = bytes_of c.args.signature in
    let k = c.loop-index.index in
    let count : k ≡ blob_count signature = (let all : k ≡ c.in-Some.superblob.count = omega (arith, c.loop-index-test.false, c.loop-index.auto.index-end) in all ∙ ap (λ (s : Superblob). s.count) c.in-Some.ensures.1) in
    let good : AreGoodBlobs signature = record { superblob = c.in-Some.ensures.0; blobs = λ j less. c.loop-index.invariant.blobs j (omega (arith, less, count)) } in
    subst (AreLeastInSignature c.args.start signature) (sym c.survey.ensures)
    (good_blobs c.args.start signature good c.loop-index.directories
    (subst (λ n. AreDirectories c.args.start signature n c.loop-index.directories) count c.loop-index.invariant.directories))
