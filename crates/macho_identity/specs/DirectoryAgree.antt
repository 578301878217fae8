-- The rule directory-agree, of the code signature of an image: its code directories say the same, and each says one
-- thing to all readers. An offset is one in the signature. (cs_blobs.h: CS_SuperBlob, CS_CodeDirectory)
use Rattle.std.specs.Prelude.{◌≡◌, ◌≢◌, ℕ, ◌<◌, ◌⊎◌, List, IsSome}
use Rattle.macho_fields.specs.Universal.{WithEarlier}
use Rattle.macho_identity.specs.Identity.{ident_offset, hash_type, page_size, SayAlike}
use Rattle.macho_signature.specs.CodeDirectories.{code_directory, version_of, fields_size, code_limit_64, team_offset}
use Rattle.macho_signature.specs.Signature.{IsDirectoryAt, bytes_at, InSignature}
use Rattle.macho_signature.specs.Superblobs.{big_word, blob_count, entry_offset}
use Rattle.macho_tables.specs.Items.{AtItem}

-- the blob k is in a slot of code directories, and is one
abbrev pub HasDirectory : List ℕ → ℕ → Type 0
HasDirectory signature k = IsDirectoryAt signature k × IsSome (code_directory (bytes_at signature k))

-- Readers differ about a directory with this blob alone: codeLimit64 is another limit than codeLimit, at 32; or
-- pageSize is 0, which is one page with all bytes, or pages of one byte; or a text begins among the fields. So
-- does an identifier at 0: some readers begin it with the magic number of the directory, and others see no identifier.
abbrev pub HasTwoLimits : List ℕ → Type 0
HasTwoLimits blob = (code_limit_64 blob ≢ 0) × (code_limit_64 blob ≢ big_word blob 32)

abbrev pub IsAmongFields : List ℕ → ℕ → Type 0
IsAmongFields blob offset = offset < fields_size (version_of blob)

abbrev pub HasTextInFields : List ℕ → Type 0
HasTextInFields blob =
    IsAmongFields blob (ident_offset blob) ⊎ ((team_offset blob ≢ 0) × IsAmongFields blob (team_offset blob))

abbrev pub IsUnclear : List ℕ → Type 0
IsUnclear blob = HasTwoLimits blob ⊎ ((page_size blob ≡ 0) ⊎ HasTextInFields blob)

-- the directory of the entry k says something else than the first one
abbrev pub IsFirstDirectory : List ℕ → ℕ → Type 0
IsFirstDirectory signature first =
    HasDirectory signature first × ((j : ℕ) → j < first → ¬ HasDirectory signature j)

abbrev pub DiffersFromFirst : List ℕ → ℕ → Type 0
DiffersFromFirst signature k =
    (first : ℕ) × IsFirstDirectory signature first × ¬ SayAlike (bytes_at signature first) (bytes_at signature k)

-- an earlier one has its type of hashes
abbrev pub RepeatsHashType : List ℕ → ℕ → Type 0
RepeatsHashType signature =
    WithEarlier (λ j k. HasDirectory signature j
    × (hash_type (bytes_at signature j) ≡ hash_type (bytes_at signature k)))

-- the rule, at an entry
abbrev pub IsDisagreeing : List ℕ → ℕ → Type 0
IsDisagreeing signature k =
    HasDirectory signature k
    × (IsUnclear (bytes_at signature k) ⊎ (DiffersFromFirst signature k ⊎ RepeatsHashType signature k))

abbrev pub DisagreeingDirectory : List ℕ → ℕ → Type 0
DisagreeingDirectory signature offset =
    AtItem entry_offset (blob_count signature) (IsDisagreeing signature) offset

-- of an image
abbrev pub BreaksDirectoryAgree : List ℕ → ℕ → Type 0
BreaksDirectoryAgree image place = InSignature image (λ start. DisagreeingDirectory) place
