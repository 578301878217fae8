-- What an explanation shows of the rules of code signatures.
use Rattle.std.proofs.Common.{◌≡◌, ◌∙◌, ℕ, List, Option, None, Some, IfSome, inr, sym, ap, subst}
use Rattle.std.specs.Prelude.{IsSomeAnd}
use Rattle.macho_fields.specs.Field.{part}
use Rattle.macho_signature.specs.CodeDirectories.{code_directory}
use Rattle.macho_signature.specs.Signature.{bytes_at}
use Rattle.macho_signature.specs.Superblobs.{blob_at, blob_bytes, blob_span}
use Rattle.macho_signature.specs.declared.code_directory.CodeDirectory.{CodeDirectory}
use Rattle.macho_signature.specs.declared.superblob.Blob.{Blob}
use Rattle.macho_spans.specs.declared.span.Span.{Span}
use Rattle.macho_explain.specs.Signatures.{IsSoundnessShown, IsUnsoundShown}
use Rattle.macho_explain.specs.declared.conflict.Conflict.{Conflict}

-- the bytes of the blob k of a signature
pub blob_read : (signature bytes : List ℕ) (k : ℕ) (blob : Blob) (span : Span) → blob ≡ blob_at signature k → span ≡ blob_span blob → bytes ≡ part span.start span.len signature → bytes ≡ bytes_at signature k
blob_read signature bytes k blob span at is read =
    read ∙ (ap (λ (s : Span). part s.start s.len signature) is ∙ ap (λ (b : Blob). blob_bytes signature b) at)

-- what is shown of the directory that a blob is
pub unsound_shown : (start : ℕ) (blob : List ℕ) (directory : CodeDirectory) (found : Option Conflict) → code_directory blob ≡ Some directory
    → IfSome found (λ c. IsSoundnessShown start blob directory c.value c.limit) → IfSome found (λ c. IsUnsoundShown start blob c.value c.limit)
unsound_shown start blob directory None is has = has
unsound_shown start blob directory (Some c) is has =
    inr (subst (λ o. IsSomeAnd o (λ d. IsSoundnessShown start blob d c.value c.limit)) (sym is) has)
