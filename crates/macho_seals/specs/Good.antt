-- The code signature of an image that breaks no rule of the profiles before the sealed one.
use Rattle.std.specs.Prelude.{◌≡◌, ℕ, ◌<◌, List, IsSomeAnd}
use Rattle.macho_signature.specs.CodeDirectories.{code_directory, IsSound}
use Rattle.macho_signature.specs.Signature.{IsDirectoryAt, bytes_at, HasMain}
use Rattle.macho_signature.specs.Superblobs.{blob_count, AreGoodBlobs}

-- a blob is a code directory of all bytes before the signature, which begins at a place of the image
abbrev pub IsWholeDirectory : ℕ → List ℕ → Type 0
IsWholeDirectory start blob =
    IsSomeAnd (code_directory blob) (λ directory. IsSound start blob directory × (directory.limit ≡ start))

-- its blobs are in place, one is in the slot of the code directory that each signature has, and each in a slot of
-- code directories is one
pub record IsWholeSignature (start : ℕ) (signature : List ℕ) : Type 0 where
  pub blobs : AreGoodBlobs signature
  pub main : HasMain signature (blob_count signature)
  pub directories : (k : ℕ) → k < blob_count signature → IsDirectoryAt signature k
      → IsWholeDirectory start (bytes_at signature k)
