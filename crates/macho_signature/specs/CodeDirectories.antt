-- A code directory, and when it is sound. Its bytes are its blob's, an offset is one in them, and all numbers
-- are big-endian. (cs_blobs.h: CS_CodeDirectory)
use Rattle.std.specs.Prelude.{◌≡◌, ℕ, ◌+◌, ◌*◌, ◌^◌, ◌≤◌, ◌⊎◌, ◌==◌, ◌&&◌, nat_le, List, length, slice_index, Bool, Option, Some, None, IsSomeAnd, if◌then◌else◌}
use Rattle.std.specs.Int.{div_ceil}
use Rattle.macho_fields.specs.Field.{HasZero}
use Rattle.macho_signature.specs.Superblobs.{big_word, big_long}
use Rattle.macho_signature.specs.declared.code_directory.CodeDirectory.{CodeDirectory}
use Rattle.macho_fields.specs.declared.header.cs_blobs.TheConstants as cs

-- the bytes of the fields of a version
abbrev pub fields_size : ℕ → ℕ
fields_size version =
    if nat_le cs.CS_SUPPORTSLINKAGE version then cs.SIZE_WITH_LINKAGE
    else (if nat_le cs.CS_SUPPORTSRUNTIME version then cs.SIZE_WITH_RUNTIME
    else (if nat_le cs.CS_SUPPORTSEXECSEG version then cs.SIZE_WITH_EXECSEG
    else (if nat_le cs.CS_SUPPORTSCODELIMIT64 version then cs.SIZE_WITH_CODELIMIT64
    else (if nat_le cs.CS_SUPPORTSTEAMID version then cs.SIZE_WITH_TEAMID
    else (if nat_le cs.CS_SUPPORTSSCATTER version then cs.SIZE_WITH_SCATTER
    else cs.CS_CODE_DIRECTORY_SIZE)))))

-- version at 8; scatterOffset at 44, teamOffset 48, codeLimit64, of 64 bits, 56, preEncryptOffset 92, linkageOffset 100
-- and linkageSize 104 are 0 in a version without them
abbrev pub version_of : List ℕ → ℕ
version_of blob = big_word blob 8

abbrev pub word_since : ℕ → ℕ → List ℕ → ℕ
word_since version offset blob = if nat_le version (version_of blob) then big_word blob offset else 0

abbrev pub scatter_offset : List ℕ → ℕ
scatter_offset blob = word_since cs.CS_SUPPORTSSCATTER 44 blob

abbrev pub team_offset : List ℕ → ℕ
team_offset blob = word_since cs.CS_SUPPORTSTEAMID 48 blob

abbrev pub code_limit_64 : List ℕ → ℕ
code_limit_64 blob = if nat_le cs.CS_SUPPORTSCODELIMIT64 (version_of blob) then big_long blob 56 else 0

abbrev pub pre_encrypt_offset : List ℕ → ℕ
pre_encrypt_offset blob = word_since cs.CS_SUPPORTSRUNTIME 92 blob

abbrev pub linkage_offset : List ℕ → ℕ
linkage_offset blob = word_since cs.CS_SUPPORTSLINKAGE 100 blob

abbrev pub linkage_size : List ℕ → ℕ
linkage_size blob = word_since cs.CS_SUPPORTSLINKAGE 104 blob

-- the limit: codeLimit64, or codeLimit, at 32, where that is 0
abbrev pub code_limit : List ℕ → ℕ
code_limit blob = if code_limit_64 blob == 0 then big_word blob 32 else code_limit_64 blob

-- flags at 12, hashOffset 16, identOffset 20, nSpecialSlots 24, nCodeSlots 28; of one byte each hashSize at 36,
-- hashType 37, pageSize 39
abbrev pub directory_at : List ℕ → CodeDirectory
directory_at blob = record {
  version = version_of blob;
  flags = big_word blob 12;
  hash_offset = big_word blob 16;
  ident_offset = big_word blob 20;
  special_slots = big_word blob 24;
  code_slots = big_word blob 28;
  limit = code_limit blob;
  hash_size = slice_index blob 36;
  hash_type = slice_index blob 37;
  page_size = slice_index blob 39;
  team_offset = team_offset blob;
  pre_encrypt_offset = pre_encrypt_offset blob;
  linkage_offset = linkage_offset blob;
  linkage_size = linkage_size blob;
}

-- The blob has the magic of a code directory, at 0, a known version, all fields of that, and no scatter vector
abbrev pub is_directory : List ℕ → Bool
is_directory blob =
    nat_le cs.CS_CODE_DIRECTORY_SIZE (length blob)
    && (big_word blob 0 == cs.CSMAGIC_CODEDIRECTORY
    && (nat_le cs.CS_EARLIEST_VERSION (version_of blob)
    && (nat_le (fields_size (version_of blob)) (length blob)
    && scatter_offset blob == 0)))

unfoldable pub code_directory : List ℕ → Option CodeDirectory
code_directory blob = if is_directory blob then Some (directory_at blob) else None

-- What is sound

-- the size in bytes of a hash of a type
abbrev pub size_of_hash : ℕ → Option ℕ
size_of_hash hash_type =
    if hash_type == cs.CS_HASHTYPE_SHA1 then Some cs.CS_SHA1_LEN
    else (if hash_type == cs.CS_HASHTYPE_SHA256 then Some cs.CS_SHA256_LEN
    else (if hash_type == cs.CS_HASHTYPE_SHA256_TRUNCATED then Some cs.CS_SHA256_TRUNCATED_LEN
    else (if hash_type == cs.CS_HASHTYPE_SHA384 then Some cs.CS_SHA384_LEN else None)))

-- The hashes have the size of their type, and lie inside: the code's from hashOffset on, and the special ones
-- up to it
pub record HasHashes (size : ℕ) (directory : CodeDirectory) : Type 0 where
  pub known : size_of_hash directory.hash_type ≡ Some directory.hash_size
  pub special : directory.special_slots * directory.hash_size ≤ directory.hash_offset
  pub code : directory.hash_offset + directory.code_slots * directory.hash_size ≤ size

-- how many pages have the bytes before a limit: pages of 2 ^ page_size bytes, and the last may be cut; with
-- page_size 0 one page has all of them
abbrev pub slots_of : ℕ → ℕ → ℕ
slots_of page_size limit =
    if page_size == 0 then (if limit == 0 then 0 else 1) else div_ceil limit (2 ^ page_size)

-- there is a hash of the code for each page
pub record HasSlots (directory : CodeDirectory) : Type 0 where
  pub page : directory.page_size ≤ cs.MOST_PAGE_SIZE
  pub slots : directory.code_slots ≡ slots_of directory.page_size directory.limit

-- a name is at an offset, with the zero byte that ends it; an offset of 0 says that it has no name
abbrev pub HasName : List ℕ → ℕ → Type 0
HasName blob offset = (offset ≡ 0) ⊎ HasZero blob offset (length blob)

-- the hashes of the code before it was encrypted, as many as of the code, lie inside; an offset of 0
-- says that there are none
abbrev pub HasEarlierHashes : ℕ → CodeDirectory → Type 0
HasEarlierHashes size directory =
    (directory.pre_encrypt_offset ≡ 0)
    ⊎ (directory.pre_encrypt_offset + directory.code_slots * directory.hash_size ≤ size)

-- of a directory of a signature that begins at a place of the image
pub record IsSound (start : ℕ) (blob : List ℕ) (directory : CodeDirectory) : Type 0 where
  pub hashes : HasHashes (length blob) directory
  pub slots : HasSlots directory
  pub limit : directory.limit ≤ start
  pub identifier : HasName blob directory.ident_offset
  pub team : HasName blob directory.team_offset
  pub earlier : HasEarlierHashes (length blob) directory
  -- the linkage is bytes of the blob
  pub linkage : directory.linkage_offset + directory.linkage_size ≤ length blob

-- the blob is a code directory, and sound
abbrev pub IsSoundDirectory : ℕ → List ℕ → Type 0
IsSoundDirectory start blob = IsSomeAnd (code_directory blob) (IsSound start blob)
