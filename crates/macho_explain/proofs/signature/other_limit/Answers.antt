use Rattle.std.proofs.Common.{◌≡◌, ◌∙◌, Some, None, ap, refl, subst, sym, arith}
use Rattle.std.specs.Prelude.{IsSomeAnd}
use Rattle.macho_fields.specs.Bytes.{bytes_of}
use Rattle.macho_fields.proofs.Options.{of_none, some_has}
use Rattle.macho_signature.specs.CodeDirectories.{code_directory}
use Rattle.macho_signature.specs.Signature.{bytes_at}
use Rattle.macho_explain.specs.Signatures.{Differ}
use Rattle.macho_explain.proofs.ShownSignatures.{blob_read}
use Rattle.macho_explain.proofs.signature.other_limit.Goals as goal

pub returns-in_err-blob : goal.returns-in_err-blob
returns-in_err-blob c =
    rw c.from_residual.ensures (λ (good, less, other). c.in_err-blob.ensures.none (good.superblob, less, λ j below. good.blobs j (omega (arith, below, less))))

pub returns-in_err-directory : goal.returns-in_err-directory
returns-in_err-directory c =
    let signature = bytes_of c.args.signature.now.bytes in
    let bytes = bytes_of c.slice.result in
    let at = blob_read signature bytes c.args.index c.in_ok-blob.blob c.span.result c.in_ok-blob.ensures.blob c.span.ensures c.slice.ensures in
    let none : code_directory (bytes_at signature c.args.index) ≡ None = ap code_directory (sym at) ∙ (sym c.read.ensures ∙ c.in_err-directory.was) in
    rw c.from_residual-in_err-directory.ensures (λ (good, less, other). of_none _ (code_directory (bytes_at signature c.args.index)) none other)

pub returns-then-directory-start : goal.returns-then-directory-start
returns-then-directory-start c =
    let signature = bytes_of c.args.signature.now.bytes in
    let bytes = bytes_of c.slice.result in
    let directory = c.in_ok-directory.directory in
    let at = blob_read signature bytes c.args.index c.in_ok-blob.blob c.span.result c.in_ok-blob.ensures.blob c.span.ensures c.slice.ensures in
    let is : code_directory (bytes_at signature c.args.index) ≡ Some directory = ap code_directory (sym at) ∙ (sym c.read.ensures ∙ c.in_ok-directory.was) in
    λ (good, less, other). some_has _ (code_directory (bytes_at signature c.args.index)) directory is other c.if-directory-start.true

pub returns : goal.returns
returns c =
    let signature = bytes_of c.args.signature.now.bytes in
    let start = c.args.signature.now.table.span.start in
    let bytes = bytes_of c.slice.result in
    let directory = c.in_ok-directory.directory in
    let at = blob_read signature bytes c.args.index c.in_ok-blob.blob c.span.result c.in_ok-blob.ensures.blob c.span.ensures c.slice.ensures in
    let is : code_directory (bytes_at signature c.args.index) ≡ Some directory = ap code_directory (sym at) ∙ (sym c.read.ensures ∙ c.in_ok-directory.was) in
    rw c.of.ensures (subst (λ o. IsSomeAnd o (λ d. Differ directory.limit start d.limit start)) (sym is) (refl, refl, c.if-directory-start.false))
