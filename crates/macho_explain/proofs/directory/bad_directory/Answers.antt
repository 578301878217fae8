use Rattle.std.proofs.Common.{◌≡◌, ◌∙◌, ◌<◌, ◌≤◌, ℕ, List, None, Some, length, refl, subst, sym, true, arith}
use Rattle.std.proofs.lemmas.Option.{none-some}
use Rattle.macho_fields.specs.Bytes.{bytes_of}
use Rattle.macho_fields.proofs.Options.{of_some}
use Rattle.macho_image.proofs.ReadParts.{length-part}
use Rattle.macho_signature.specs.CodeDirectories.{code_directory, directory_at, is_directory, IsSound, IsSoundDirectory}
use Rattle.macho_signature.specs.Signature.{bytes_at}
use Rattle.macho_signature.specs.Superblobs.{blob_at, blob_count, AreGoodBlobs}
use Rattle.macho_signature.proofs.Signed.{blob_fits, superblob_inside}
use Rattle.macho_explain.specs.Blobs.{IsNotSound}
use Rattle.macho_explain.specs.Signatures.{IsSoundnessShown, IsUnsoundShown}
use Rattle.macho_explain.specs.declared.conflict.Conflict.{Conflict}
use Rattle.macho_explain.proofs.Found.{found_as}
use Rattle.macho_explain.proofs.ShownSignatures.{blob_read, unsound_shown}
use Rattle.macho_explain.proofs.directory.bad_directory.Goals as goal

-- a blob that is not misplaced has the bytes of its magic and length
has_head : (signature : List ℕ) → AreGoodBlobs signature → (k : ℕ) → k < blob_count signature → 8 ≤ length (bytes_at signature k)
has_head signature good k less =
    let blob = blob_at signature k in
    let (start, head, end) = blob_fits signature good k less in
    let inside = superblob_inside signature good.superblob in
    let size = length-part blob.offset blob.length signature (within _ _ _ end inside) in
    long _ _ size head
  where
    within : (a b c : ℕ) → a ≤ b → b ≤ c → a ≤ c
    within a b c one other = omega (arith, one, other)

    long : (size len : ℕ) → size ≡ len → 8 ≤ len → 8 ≤ size
    long size len is head = omega (arith, is, head)

-- a blob that is a code directory is read
is_read : (blob : List ℕ) → is_directory blob ≡ true → code_directory blob ≡ Some (directory_at blob)
unfolding code_directory
is_read blob is = rw is refl

pub returns-in_err-numbers-in-None : goal.returns-in_err-numbers-in-None
returns-in_err-numbers-in-None c =
    let signature = bytes_of c.args.signature.now.bytes in
    let bytes = bytes_of c.slice-bytes.result in
    let index = c.args.index in
    let at = blob_read signature bytes index c.in_ok-blob.blob c.span.result c.in_ok-blob.ensures.blob c.span.ensures c.slice-bytes.ensures in
    let none : code_directory bytes ≡ None = sym c.read.ensures ∙ c.in-None.is in
    rw c.from_residual-in_err-numbers-in-None.ensures (λ (good, less, not).
    let head = subst (λ (b : List ℕ). 8 ≤ length b) (sym at) (has_head signature good index less) in
    none-some (directory_at bytes) (sym none ∙ is_read bytes (c.in_err-numbers-in-None.ensures head)))

pub returns-in-Some : goal.returns-in-Some
returns-in-Some c =
    let signature = bytes_of c.args.signature.now.bytes in
    let start = c.args.signature.now.table.span.start in
    let bytes = bytes_of c.slice-bytes.result in
    let directory = c.in-Some.directory in
    let blob = c.in_ok-blob.blob in
    let index = c.args.index in
    let at = blob_read signature bytes index blob c.span.result c.in_ok-blob.ensures.blob c.span.ensures c.slice-bytes.ensures in
    let is : code_directory bytes ≡ Some directory = sym c.read.ensures ∙ c.in-Some.is in
    found_as (IsSound start bytes directory) (¬ (AreGoodBlobs signature × (index < blob_count signature) × IsNotSound start signature index))
    (λ (f : Conflict). IsSoundnessShown start bytes directory f.value f.limit) (λ (f : Conflict). IsUnsoundShown start (bytes_at signature index) f.value f.limit) c.unsound.result
    (λ sound (good, less, not). not (subst (λ (b : List ℕ). IsSoundDirectory start b) at (of_some (IsSound start bytes) (code_directory bytes) directory is sound)))
    (λ f shown. subst (λ (b : List ℕ). IsUnsoundShown start b f.value f.limit) at (unsound_shown start bytes directory (Some f) is shown)) c.unsound.ensures
