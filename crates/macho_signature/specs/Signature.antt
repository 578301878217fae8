-- The rules of the code signature of an image, which begins at a place of the image. An offset is one in the signature.
-- (cs_blobs.h: CS_SuperBlob; mach-o/loader.h: LC_CODE_SIGNATURE)
use Rattle.std.specs.Prelude.{◌≡◌, ◌≢◌, ℕ, ◌+◌, ◌<◌, ◌⊎◌, List, true, IsSomeAnd}
use Rattle.macho_fields.specs.Field.{part}
use Rattle.macho_fields.specs.declared.header.loader.TheConstants as loader
use Rattle.macho_signature.specs.CodeDirectories.{code_directory, IsSoundDirectory}
use Rattle.macho_tables.specs.Items.{AtItem}
use Rattle.macho_signature.specs.Superblobs.{blob_count, entry_offset, blob_at, blob_bytes, is_directory_slot, BadBlob, AreGoodBlobs}
use Rattle.macho_fields.specs.declared.header.cs_blobs.TheConstants as cs
use Rattle.macho_spans.specs.declared.span.Span.{Span}
use Rattle.macho_tables.specs.DataTables.{IsDataTable}

-- the blob k is in a slot of code directories
abbrev pub IsDirectoryAt : List ℕ → ℕ → Type 0
IsDirectoryAt signature k = is_directory_slot (blob_at signature k).slot ≡ true

-- its bytes
abbrev pub bytes_at : List ℕ → ℕ → List ℕ
bytes_at signature k = blob_bytes signature (blob_at signature k)

-- one of the first blobs, so many, is in the slot of the code directory that each signature has
abbrev pub HasMain : List ℕ → ℕ → Type 0
HasMain signature count =
    (k : ℕ) × (k < count) × ((blob_at signature k).slot ≡ cs.CSSLOT_CODEDIRECTORY)

-- the blob k should be a sound code directory, and is not
abbrev pub IsUnsound : ℕ → List ℕ → ℕ → Type 0
IsUnsound start signature k = IsDirectoryAt signature k × ¬ IsSoundDirectory start (bytes_at signature k)

-- the rule signature-directory: at the start of the signature where it has no such directory, or at an entry
abbrev pub BadDirectory : ℕ → List ℕ → ℕ → Type 0
BadDirectory start signature offset =
    AreGoodBlobs signature
    × (((offset ≡ 0) × ¬ HasMain signature (blob_count signature))
    ⊎ AtItem entry_offset (blob_count signature) (IsUnsound start signature) offset)

-- it is not broken, and neither is signature-blob
pub record AreGoodDirectories (start : ℕ) (signature : List ℕ) : Type 0 where
  pub blobs : AreGoodBlobs signature
  pub main : HasMain signature (blob_count signature)
  pub sound : (k : ℕ) → k < blob_count signature → ¬ IsUnsound start signature k

-- the blob k is a code directory with hashes of other bytes than those before the signature
abbrev pub IsPartial : ℕ → List ℕ → ℕ → Type 0
IsPartial start signature k =
    IsDirectoryAt signature k
    × IsSomeAnd (code_directory (bytes_at signature k)) (λ directory. directory.limit ≢ start)

-- the rule signature-whole, at an entry
abbrev pub PartialDirectory : ℕ → List ℕ → ℕ → Type 0
PartialDirectory start signature offset =
    AreGoodDirectories start signature
    × AtItem entry_offset (blob_count signature) (IsPartial start signature) offset

-- The rules of an image

-- a rule of the bytes of its signature, which has some, at a place of the image
abbrev pub InSignature : List ℕ → (ℕ → List ℕ → ℕ → Type 0) → ℕ → Type 0
InSignature image Rule place =
    (table : Span) × IsDataTable image loader.LC_CODE_SIGNATURE table
    × ((offset : ℕ) × (place ≡ table.start + offset)
    × Rule table.start (part table.start table.len image) offset)

abbrev pub BreaksSignatureBlob : List ℕ → ℕ → Type 0
BreaksSignatureBlob image place = InSignature image (λ start. BadBlob) place

abbrev pub BreaksSignatureDirectory : List ℕ → ℕ → Type 0
BreaksSignatureDirectory image place = InSignature image BadDirectory place

abbrev pub BreaksSignatureWhole : List ℕ → ℕ → Type 0
BreaksSignatureWhole image place = InSignature image PartialDirectory place
