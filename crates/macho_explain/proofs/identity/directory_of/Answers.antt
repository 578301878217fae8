use Rattle.std.proofs.Common.{◌∙◌, ap, sym}
use Rattle.std.proofs.lemmas.Bool.{false≢true}
use Rattle.macho_fields.specs.Bytes.{bytes_of}
use Rattle.macho_signature.specs.Superblobs.{is_directory_slot}
use Rattle.macho_signature.specs.declared.superblob.Blob.{Blob}
use Rattle.macho_explain.proofs.Directories.{reads_none, reads_some}
use Rattle.macho_explain.proofs.ShownSignatures.{blob_read}
use Rattle.macho_explain.proofs.identity.directory_of.Goals as goal

pub returns-then-not-is_directory-clause-none : goal.returns-then-not-is_directory-clause-none
returns-then-not-is_directory-clause-none c = λ k is has.
    false≢true (sym c.if-not-is_directory.true ∙ (c.is_directory.ensures ∙ (ap (λ (b : Blob). is_directory_slot b.slot) is ∙ has.0)))

pub returns-clause-some : goal.returns-clause-some
returns-clause-some c =
    let signature = bytes_of c.args.signature.now.bytes in
    let bytes = bytes_of c.slice.result in
    reads_some signature c.args.blob bytes c.read.result (λ k is. blob_read signature bytes k c.args.blob c.span.result is c.span.ensures c.slice.ensures) c.read.ensures
    (sym c.is_directory.ensures ∙ c.if-not-is_directory.false)

pub returns-clause-none : goal.returns-clause-none
returns-clause-none c =
    let signature = bytes_of c.args.signature.now.bytes in
    let bytes = bytes_of c.slice.result in
    reads_none signature c.args.blob bytes c.read.result (λ k is. blob_read signature bytes k c.args.blob c.span.result is c.span.ensures c.slice.ensures) c.read.ensures
