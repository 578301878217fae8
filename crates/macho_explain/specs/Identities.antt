-- What is shown of the rules of what a code signature says of a program. An offset is one in the signature.
-- (cs_blobs.h: CS_BlobIndex, CS_CodeDirectory)
use Rattle.std.specs.Prelude.{◌≡◌, ℕ, ◌+◌, ◌<◌, List, Option, Some, IsSomeAnd, MatchOption}
use Rattle.macho_identity.specs.DirectoryAgree.{HasDirectory, IsFirstDirectory}
use Rattle.macho_identity.specs.SignatureSlot.{RepeatsSlot}
use Rattle.macho_identity.specs.Slots.{magic_at}
use Rattle.macho_seals.specs.Signature.{HaveSameSlot}
use Rattle.macho_signature.specs.CodeDirectories.{code_directory}
use Rattle.macho_signature.specs.Signature.{bytes_at, IsDirectoryAt}
use Rattle.macho_signature.specs.Superblobs.{blob_at, blob_count, entry_offset, AreGoodBlobs}
use Rattle.macho_signature.specs.declared.code_directory.CodeDirectory.{CodeDirectory}
use Rattle.macho_spans.specs.declared.span.Span.{Span}
use Rattle.macho_tables.specs.Items.{AtItem}
use Rattle.macho_explain.specs.Signatures.{IsSignatureOf}
use Rattle.macho_explain.specs.declared.conflict.Conflict.{Conflict}
use Rattle.macho_explain.specs.declared.part.Part.{Part}

-- What the rules are about

-- no blob is misplaced, and an entry with P is there
abbrev pub AtGoodEntry : (List ℕ → ℕ → Type 0) → ℕ → List ℕ → ℕ → Type 0
AtGoodEntry P start signature offset =
    AreGoodBlobs signature × AtItem entry_offset (blob_count signature) (P signature) offset

-- the entry of a blob
abbrev pub IsSlotPlace : ℕ → List ℕ → ℕ → Type 0
IsSlotPlace start signature offset = AtGoodEntry (λ s k. Unit {0}) start signature offset

-- the entry of a code directory
abbrev pub IsAnyDirectory : ℕ → List ℕ → ℕ → Type 0
IsAnyDirectory start signature offset = AtGoodEntry HasDirectory start signature offset

-- What is shown

-- P of the entry of the signature of an image that is at the place
abbrev pub ShowsEntry : List ℕ → ℕ → (List ℕ → ℕ → Type 0) → Type 0
ShowsEntry image place P =
    (table : Span) × (signature : List ℕ) × IsSignatureOf image table signature
    × ((k : ℕ) × (place ≡ table.start + entry_offset k) × P signature k)

-- the blob of an earlier entry with the slot of the entry k, or none where no earlier entry has it
abbrev pub IsEarlierShown : List ℕ → ℕ → Option Part → Type 0
IsEarlierShown signature k second =
    MatchOption second (AreGoodBlobs signature → ¬ RepeatsSlot signature k)
    (λ part. IsSomeAnd part.index (λ j. (j < k) × HaveSameSlot signature j k))

-- the slot of the entry, the magic number of its blob, and the blob of an earlier entry in the slot
abbrev pub IsSlotShown : List ℕ → ℕ → Conflict → Type 0
IsSlotShown image place c =
    ShowsEntry image place (λ signature k. (c.value ≡ (blob_at signature k).slot) × (c.limit ≡ magic_at signature k)
    × IsEarlierShown signature k c.second)

-- the code directory of the entry k has these fields
abbrev pub ReadsDirectory : List ℕ → ℕ → CodeDirectory → Type 0
ReadsDirectory signature k directory =
    IsDirectoryAt signature k × (code_directory (bytes_at signature k) ≡ Some directory)

-- the type of its hashes is
abbrev pub HasHashType : List ℕ → ℕ → ℕ → Type 0
HasHashType signature k type =
    IsSomeAnd (code_directory (bytes_at signature k)) (λ directory. type ≡ directory.hash_type)

-- the types of hashes of the code directory and of the first one, whose blob is the second part
abbrev pub IsAgreeShown : List ℕ → ℕ → Conflict → Type 0
IsAgreeShown image place c =
    ShowsEntry image place (λ signature k. HasHashType signature k c.value
    × ((first : ℕ) × IsFirstDirectory signature first × HasHashType signature first c.limit
    × IsSomeAnd c.second (λ part. part.index ≡ Some first)))
