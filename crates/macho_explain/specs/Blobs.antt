-- What the rules of code signatures are about. An offset is one in the signature, which begins at a place of the image.
-- (cs_blobs.h: CS_SuperBlob, CS_BlobIndex, CS_CodeDirectory)
use Rattle.std.specs.Prelude.{◌≡◌, ◌≢◌, ℕ, ◌<◌, ◌⊎◌, List, IsSomeAnd}
use Rattle.macho_fields.specs.declared.header.loader.TheConstants as loader
use Rattle.macho_seals.specs.Signature.{RepeatedDirectory}
use Rattle.macho_signature.specs.CodeDirectories.{code_directory, IsSoundDirectory}
use Rattle.macho_signature.specs.Signature.{bytes_at}
use Rattle.macho_signature.specs.Superblobs.{blob_count, entry_offset, AreGoodBlobs, HasNoSuperblob, IsBadBlob}
use Rattle.macho_tables.specs.Items.{AtItem}
use Rattle.macho_explain.specs.Wholes.{InTable}

-- P of the signature of an image, at the offset of the place
abbrev pub InSignature : (ℕ → List ℕ → ℕ → Type 0) → List ℕ → ℕ → Type 0
InSignature P image place = InTable image loader.LC_CODE_SIGNATURE P place

-- the blob k is misplaced, and none of the blobs before it is
abbrev pub IsFirstBad : List ℕ → ℕ → Type 0
IsFirstBad signature k = IsBadBlob signature k × ((j : ℕ) → j < k → ¬ IsBadBlob signature j)

-- the blob k is a code directory, and covers the image not up to the signature
abbrev pub IsOtherLimit : ℕ → List ℕ → ℕ → Type 0
IsOtherLimit start signature k = IsSomeAnd (code_directory (bytes_at signature k)) (λ directory. directory.limit ≢ start)

-- the blob k is not a sound code directory
abbrev pub IsNotSound : ℕ → List ℕ → ℕ → Type 0
IsNotSound start signature k = ¬ IsSoundDirectory start (bytes_at signature k)

-- The subjects of the rules

-- the start of a signature that has no superblob; or the entry of the first misplaced blob
abbrev pub IsBlobAt : ℕ → List ℕ → ℕ → Type 0
IsBlobAt start signature offset =
    ((offset ≡ 0) × HasNoSuperblob signature)
    ⊎ ((¬ HasNoSuperblob signature) × AtItem entry_offset (blob_count signature) (IsFirstBad signature) offset)

-- No blob is misplaced. The place is the start of the signature, or the entry of a blob that is not a sound code
-- directory.
abbrev pub IsDirectoryPlace : ℕ → List ℕ → ℕ → Type 0
IsDirectoryPlace start signature offset =
    AreGoodBlobs signature
    × ((offset ≡ 0) ⊎ AtItem entry_offset (blob_count signature) (IsNotSound start signature) offset)

-- the entry of a code directory that covers the image not up to the signature
abbrev pub IsLimitAt : ℕ → List ℕ → ℕ → Type 0
IsLimitAt start signature offset =
    AreGoodBlobs signature × AtItem entry_offset (blob_count signature) (IsOtherLimit start signature) offset

-- the entry of a code directory in the slot of an earlier one
abbrev pub IsRepeatAt : ℕ → List ℕ → ℕ → Type 0
IsRepeatAt start signature offset = AreGoodBlobs signature × RepeatedDirectory signature offset
