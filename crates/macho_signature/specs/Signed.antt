-- What a reader with no bounds finds in the code signature of an image that breaks none of its rules.
-- (cs_blobs.h: CS_SuperBlob, CS_CodeDirectory)
use Rattle.std.specs.Prelude.{◌≡◌, ◌≢◌, ℕ, ◌+◌, ◌*◌, ◌/◌, ◌^◌, ◌≤◌, ◌<◌, ◌==◌, List, length, IsSomeAnd, if◌then◌else◌}
use Rattle.macho_fields.specs.Field.{part, IsEnded}
use Rattle.macho_fields.specs.Universal.{OfEachImage}
use Rattle.macho_fields.specs.declared.header.loader.TheConstants as loader
use Rattle.macho_signature.specs.CodeDirectories.{code_directory}
use Rattle.macho_signature.specs.Signature.{IsDirectoryAt, bytes_at, HasMain}
use Rattle.macho_signature.specs.Superblobs.{blob_count, entry_offset, blob_at, blob_end}
use Rattle.macho_signature.specs.declared.code_directory.CodeDirectory.{CodeDirectory}
use Rattle.macho_fields.specs.declared.header.cs_blobs.TheConstants as cs
use Rattle.macho_spans.specs.declared.span.Span.{Span}
use Rattle.macho_tables.specs.DataTables.{IsDataTable}

-- the magic and the length of the blob k are past the index, and it ends in the signature
pub record IsPlacedBlob (signature : List ℕ) (k : ℕ) : Type 0 where
  pub start : entry_offset (blob_count signature) ≤ (blob_at signature k).offset
  pub fields : (blob_at signature k).offset + cs.CS_GENERIC_BLOB_SIZE ≤ blob_end (blob_at signature k)
  pub end : blob_end (blob_at signature k) ≤ length signature

-- the page that has a place of the image: pages of 2 ^ page_size bytes, or one page with all of them
abbrev pub page_of : ℕ → ℕ → ℕ
page_of page_size place = if page_size == 0 then 0 else place / 2 ^ page_size

-- a name, where there is one, is followed by a zero byte of the blob
abbrev pub IsNamed : List ℕ → ℕ → Type 0
IsNamed blob offset = offset ≢ 0 → IsEnded blob offset (length blob)

-- a code directory with this blob, of a signature that begins at a place of the image
pub record CoversPages (start : ℕ) (blob : List ℕ) (directory : CodeDirectory) : Type 0 where
  -- the hash of each page lies in the blob, and so does each special hash. These go back from hashOffset.
  pub code : (k : ℕ) → k < directory.code_slots
      → directory.hash_offset + k * directory.hash_size + directory.hash_size ≤ length blob
  pub special : (k : ℕ) → k < directory.special_slots
      → (k * directory.hash_size + directory.hash_size ≤ directory.hash_offset)
      × (directory.hash_offset ≤ length blob)
  -- each byte before the signature is in a page with a hash, and each hash is of a page with such bytes
  pub pages : (place : ℕ) → place < start → page_of directory.page_size place < directory.code_slots
  pub hashes : (k : ℕ) → k < directory.code_slots
      → (place : ℕ) × (place < start) × (page_of directory.page_size place ≡ k)
  -- the names end in the blob
  pub identifier : IsNamed blob directory.ident_offset
  pub team : IsNamed blob directory.team_offset
  -- and so do the hashes of the pages before encryption, where there are some, and the linkage
  pub earlier : (k : ℕ) → k < directory.code_slots → directory.pre_encrypt_offset ≢ 0
      → directory.pre_encrypt_offset + k * directory.hash_size + directory.hash_size ≤ length blob
  pub linkage : directory.linkage_offset + directory.linkage_size ≤ length blob

-- a signature that begins at a place of the image
pub record IsSignature (start : ℕ) (signature : List ℕ) : Type 0 where
  -- the blobs lie in it, apart from its index, and each past those before it
  pub placed : (k : ℕ) → k < blob_count signature → IsPlacedBlob signature k
  pub apart : (j k : ℕ) → j < k → k < blob_count signature
      → blob_end (blob_at signature j) ≤ (blob_at signature k).offset
  -- a blob is in the slot of the code directory that each signature has
  pub main : HasMain signature (blob_count signature)
  -- each blob in a slot of code directories is one, and covers the bytes before the signature
  pub directories : (k : ℕ) → k < blob_count signature → IsDirectoryAt signature k
      → IsSomeAnd (code_directory (bytes_at signature k)) (CoversPages start (bytes_at signature k))

-- the code signature of an image is one
abbrev pub IsSigned : List ℕ → Type 0
IsSigned image =
    (table : Span) → IsDataTable image loader.LC_CODE_SIGNATURE table
    → IsSignature table.start (part table.start table.len image)

-- of a file: the signature of each 64-bit slice is
abbrev pub AreSigned : List ℕ → Type 0
AreSigned = OfEachImage IsSigned
