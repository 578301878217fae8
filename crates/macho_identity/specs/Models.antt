-- The answers of readers about a code signature, question by question, and that all of them agree. A model of a reader is
-- a relation between a question and an answer. It may have none: a reader that refuses shows no other program.
-- (cs_blobs.h: CS_SuperBlob, CS_CodeDirectory)
use Rattle.std.specs.Prelude.{◌≡◌, ◌≢◌, ℕ, ◌+◌, ◌*◌, ◌^◌, ◌≤◌, ◌<◌, ◌==◌, ◌⊎◌, nat_lt, List, Option, Some, None, MatchOption, IsSomeAnd, if◌then◌else◌}
use Rattle.macho_fields.specs.Field.{part, string_from}
use Rattle.macho_fields.specs.declared.header.cs_blobs.TheConstants as cs
use Rattle.macho_fields.specs.declared.header.loader.TheConstants as loader
use Rattle.macho_identity.specs.DirectoryAgree.{HasDirectory}
use Rattle.macho_identity.specs.Identity.{ident_offset, hash_type, page_size, identifier_of, team_of, settings_of}
use Rattle.macho_identity.specs.Slots.{magic_of_slot, magic_at}
use Rattle.macho_signature.specs.CodeDirectories.{code_directory, version_of, fields_size, code_limit, team_offset}
use Rattle.macho_signature.specs.Signature.{IsDirectoryAt, bytes_at}
use Rattle.macho_signature.specs.Superblobs.{big_word, blob_at, blob_count}
use Rattle.macho_signature.specs.declared.code_directory.CodeDirectory.{CodeDirectory}
use Rattle.macho_spans.specs.declared.span.Span.{Span}
use Rattle.macho_tables.specs.DataTables.{IsDataTable}
use Rattle.macho_tables.specs.Items.{IsFirstItem}

-- any two answers are the same
abbrev pub Agree : {A : Type 0} → (A → Type 0) → Type 0
Agree {A} Answers = (a b : A) → Answers a → Answers b → a ≡ b

-- a fact of the bytes of the signature of an image
abbrev pub OfSignature : List ℕ → (List ℕ → Type 0) → Type 0
OfSignature image P =
    (table : Span) → IsDataTable image loader.LC_CODE_SIGNATURE table → P (part table.start table.len image)

-- a reader takes the first of so many entries with P, or the last, or finds that no entry has it
abbrev pub IsLastItem : ℕ → (ℕ → Type 0) → Option ℕ → Type 0
IsLastItem count P found =
    MatchOption found ((k : ℕ) → k < count → ¬ P k)
    (λ last. (last < count) × P last × ((k : ℕ) → last < k → k < count → ¬ P k))

abbrev pub IsEndItem : ℕ → (ℕ → Type 0) → Option ℕ → Type 0
IsEndItem count P found = IsFirstItem count P found ⊎ IsLastItem count P found

-- Which blob is in a slot, as the requirements or the entitlements? That of the entry with the slot; with the slot, and
-- with the magic number of the slot (xnu); or with the magic number, if no other slot has it. There may be none.

abbrev pub HasSlotAt : List ℕ → ℕ → ℕ → Type 0
HasSlotAt signature slot k = (blob_at signature k).slot ≡ slot

abbrev pub HasMagicAt : List ℕ → ℕ → ℕ → Type 0
HasMagicAt signature magic k = magic_at signature k ≡ magic

abbrev pub IsMagicOf : ℕ → ℕ → Type 0
IsMagicOf slot magic = magic_of_slot slot ≡ Some magic

abbrev pub IsMagicOfAlone : ℕ → ℕ → Type 0
IsMagicOfAlone slot magic = IsMagicOf slot magic × ((other : ℕ) → IsMagicOf other magic → other ≡ slot)

abbrev pub IsBlobOfSlot : List ℕ → ℕ → Option ℕ → Type 0
IsBlobOfSlot signature slot answer =
    let count = blob_count signature in
    IsEndItem count (HasSlotAt signature slot) answer
    ⊎ (((magic : ℕ) × IsMagicOf slot magic
    × IsEndItem count (λ k. HasSlotAt signature slot k × HasMagicAt signature magic k) answer)
    ⊎ ((magic : ℕ) × IsMagicOfAlone slot magic × IsEndItem count (HasMagicAt signature magic) answer))

abbrev pub HasOneBlobOfSlot : List ℕ → Type 0
HasOneBlobOfSlot image = OfSignature image (λ signature. (slot : ℕ) → Agree (IsBlobOfSlot signature slot))

-- Which identifier, which team, which flags, platform, executable segment and runtime has the program? Those of the
-- code directory in slot 0; of the first, or of the last; or of the one with the
-- best type of hashes (xnu: hash_rank).

abbrev pub hash_rank : ℕ → ℕ
hash_rank type =
    if type == cs.CS_HASHTYPE_SHA1 then 1
    else (if type == cs.CS_HASHTYPE_SHA256_TRUNCATED then 2
    else (if type == cs.CS_HASHTYPE_SHA256 then 3
    else (if type == cs.CS_HASHTYPE_SHA384 then 4 else 0)))

abbrev pub rank_at : List ℕ → ℕ → ℕ
rank_at signature k = hash_rank (hash_type (bytes_at signature k))

abbrev pub IsDirectoryOfAll : List ℕ → ℕ → Type 0
IsDirectoryOfAll signature k = (k < blob_count signature) × HasDirectory signature k

abbrev pub IsBestDirectory : List ℕ → ℕ → Type 0
IsBestDirectory signature k =
    IsDirectoryOfAll signature k × (0 < rank_at signature k)
    × ((j : ℕ) → IsDirectoryOfAll signature j → rank_at signature j ≤ rank_at signature k)

abbrev pub IsChosenDirectory : List ℕ → ℕ → Type 0
IsChosenDirectory signature k =
    (IsDirectoryOfAll signature k × HasSlotAt signature cs.CSSLOT_CODEDIRECTORY k)
    ⊎ (IsEndItem (blob_count signature) (HasDirectory signature) (Some k) ⊎ IsBestDirectory signature k)

-- what the directory says that a reader takes
abbrev pub IsSaid : {A : Type 0} → (List ℕ → A) → List ℕ → A → Type 0
IsSaid {A} what signature answer =
    (k : ℕ) × IsChosenDirectory signature k × (answer ≡ what (bytes_at signature k))

pub record SaysOneThing (signature : List ℕ) : Type 0 where
  pub identifier : Agree (IsSaid identifier_of signature)
  pub team : Agree (IsSaid team_of signature)
  pub settings : Agree (IsSaid settings_of signature)
  -- and one directory has the best hashes
  pub best : Agree (IsBestDirectory signature)

abbrev pub HasOneIdentity : List ℕ → Type 0
HasOneIdentity image = OfSignature image SaysOneThing

-- What does the directory with a blob say? How many bytes have hashes: by the limit of 32 bits, or by the limit of 64
-- bits where there is one.

abbrev pub IsLimitOf : List ℕ → ℕ → Type 0
IsLimitOf blob answer = (answer ≡ big_word blob 32) ⊎ (answer ≡ code_limit blob)

-- How many bytes has a page? 2 ^ pageSize, or no bound where that is 0.

abbrev pub page_bytes : List ℕ → Option ℕ
page_bytes blob = if page_size blob == 0 then None else Some (2 ^ page_size blob)

abbrev pub IsPageSizeOf : List ℕ → Option ℕ → Type 0
IsPageSizeOf blob answer = (answer ≡ page_bytes blob) ⊎ (answer ≡ Some (2 ^ page_size blob))

-- Which text is the identifier, or the team? That at its offset, unless the offset is below a least one: 0, 1, or the
-- first past the fields. All readers see no team at 0.

abbrev pub text_past : ℕ → ℕ → List ℕ → Option (List ℕ)
text_past least offset blob = if nat_lt offset least then None else Some (string_from offset blob)

abbrev pub text_past_fields : ℕ → List ℕ → Option (List ℕ)
text_past_fields offset blob = text_past (fields_size (version_of blob)) offset blob

abbrev pub IsIdentifierOf : List ℕ → Option (List ℕ) → Type 0
IsIdentifierOf blob answer =
    (answer ≡ text_past 0 (ident_offset blob) blob)
    ⊎ ((answer ≡ text_past 1 (ident_offset blob) blob) ⊎ (answer ≡ text_past_fields (ident_offset blob) blob))

abbrev pub IsTeamOf : List ℕ → Option (List ℕ) → Type 0
IsTeamOf blob answer =
    (answer ≡ text_past 1 (team_offset blob) blob) ⊎ (answer ≡ text_past_fields (team_offset blob) blob)

pub record IsClear (blob : List ℕ) : Type 0 where
  pub limit : Agree (IsLimitOf blob)
  pub page : Agree (IsPageSizeOf blob)
  pub identifier : Agree (IsIdentifierOf blob)
  pub team : Agree (IsTeamOf blob)

abbrev pub AreDirectoriesClear : List ℕ → Type 0
AreDirectoriesClear image =
    OfSignature image (λ signature. (k : ℕ) → IsDirectoryOfAll signature k → IsClear (bytes_at signature k))

-- Which bytes are the linkage, or a hash of the code before it was encrypted? Bytes of the blob, or the bytes there in
-- the signature, if a reader does not look where the blob ends.

abbrev pub IsPartOfBlob : List ℕ → ℕ → ℕ → ℕ → List ℕ → Type 0
IsPartOfBlob signature k start len answer =
    (answer ≡ part start len (bytes_at signature k))
    ⊎ (answer ≡ part ((blob_at signature k).offset + start) len signature)

pub record StaysInBlob (signature : List ℕ) (k : ℕ) (directory : CodeDirectory) : Type 0 where
  pub linkage : Agree (IsPartOfBlob signature k directory.linkage_offset directory.linkage_size)
  pub earlier : (i : ℕ) → i < directory.code_slots → directory.pre_encrypt_offset ≢ 0
      → Agree (IsPartOfBlob signature k (directory.pre_encrypt_offset + i * directory.hash_size) directory.hash_size)

abbrev pub StayInBlobs : List ℕ → Type 0
StayInBlobs image =
    OfSignature image (λ signature. (k : ℕ) → k < blob_count signature → IsDirectoryAt signature k
    → IsSomeAnd (code_directory (bytes_at signature k)) (StaysInBlob signature k))
