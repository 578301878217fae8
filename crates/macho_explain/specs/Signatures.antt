-- What an explanation shows of the rules of code signatures: two numbers that are not as the rule says, of the table of
-- LC_CODE_SIGNATURE. An offset is one in it. (docs/reference/explain.md; cs_blobs.h: CS_SuperBlob, CS_CodeDirectory)
use Rattle.std.specs.Prelude.{◌≡◌, ◌≢◌, ℕ, ◌+◌, ◌*◌, ◌<◌, ◌⊎◌, List, length, None, IsSomeAnd}
use Rattle.macho_fields.specs.declared.header.loader.TheConstants as loader
use Rattle.macho_spans.specs.declared.span.Span.{Span}
use Rattle.macho_signature.specs.CodeDirectories.{code_directory, fields_size, scatter_offset, size_of_hash, slots_of, version_of, HasName}
use Rattle.macho_signature.specs.Signature.{bytes_at}
use Rattle.macho_signature.specs.Superblobs.{big_word, blob_at, blob_count, blob_end, entry_offset, least_offset, superblob_at}
use Rattle.macho_signature.specs.declared.code_directory.CodeDirectory.{CodeDirectory}
use Rattle.macho_fields.specs.declared.header.cs_blobs.TheConstants as cs
use Rattle.macho_explain.specs.Wholes.{named_table, IsWhole}

-- what is shown is two numbers that have to be the same, and are not; one that is below the limit, and may not be; or
-- one above it
abbrev pub Differ : ℕ → ℕ → ℕ → ℕ → Type 0
Differ value limit found wanted = (value ≡ found) × (limit ≡ wanted) × (found ≢ wanted)

abbrev pub IsBelow : ℕ → ℕ → ℕ → ℕ → Type 0
IsBelow value limit found least = (value ≡ found) × (limit ≡ least) × (found < least)

abbrev pub IsAbove : ℕ → ℕ → ℕ → ℕ → Type 0
IsAbove value limit found most = (value ≡ found) × (limit ≡ most) × (most < found)

-- The superblob

-- why a signature has none: its size, its magic, or where it ends, or its index
abbrev pub IsSuperblobShown : List ℕ → ℕ → ℕ → Type 0
IsSuperblobShown signature value limit =
    IsBelow value limit (length signature) cs.CS_SUPER_BLOB_SIZE
    ⊎ Differ value limit (big_word signature 0) cs.CSMAGIC_EMBEDDED_SIGNATURE
    ⊎ IsAbove value limit (superblob_at signature).length (length signature)
    ⊎ IsAbove value limit (entry_offset (blob_count signature)) (superblob_at signature).length

-- why the blob k is misplaced: where it begins, or its magic and length end; its length, or where it ends
abbrev pub IsBlobShown : List ℕ → ℕ → ℕ → ℕ → Type 0
IsBlobShown signature k value limit =
    IsBelow value limit (blob_at signature k).offset (least_offset signature k)
    ⊎ IsAbove value limit ((blob_at signature k).offset + cs.CS_GENERIC_BLOB_SIZE) (superblob_at signature).length
    ⊎ IsBelow value limit (blob_at signature k).length cs.CS_GENERIC_BLOB_SIZE
    ⊎ IsAbove value limit (blob_end (blob_at signature k)) (superblob_at signature).length

-- A code directory

-- why a blob is not a code directory: its magic, its size, its version, its fields, or a scatter vector
abbrev pub IsFormShown : List ℕ → ℕ → ℕ → Type 0
IsFormShown blob value limit =
    Differ value limit (big_word blob 0) cs.CSMAGIC_CODEDIRECTORY
    ⊎ IsBelow value limit (length blob) cs.CS_CODE_DIRECTORY_SIZE
    ⊎ IsBelow value limit (version_of blob) cs.CS_EARLIEST_VERSION
    ⊎ IsBelow value limit (length blob) (fields_size (version_of blob))
    ⊎ IsAbove value limit (scatter_offset blob) 0

-- why its hashes are unsound, in a blob of so many bytes: their type, for which there is no size, or their size, or
-- where they lie
abbrev pub AreHashesShown : ℕ → CodeDirectory → ℕ → ℕ → Type 0
AreHashesShown size directory value limit =
    ((size_of_hash directory.hash_type ≡ None) × (value ≡ directory.hash_type) × (limit ≡ cs.CS_HASHTYPE_SHA384))
    ⊎ IsSomeAnd (size_of_hash directory.hash_type) (λ wanted. Differ value limit directory.hash_size wanted)
    ⊎ IsAbove value limit (directory.special_slots * directory.hash_size) directory.hash_offset
    ⊎ IsAbove value limit (directory.hash_offset + directory.code_slots * directory.hash_size) size

-- where a name begins that does not end in the blob
abbrev pub IsNameShown : List ℕ → CodeDirectory → ℕ → Type 0
IsNameShown blob directory name =
    ((name ≡ directory.ident_offset) × ¬ HasName blob name) ⊎ ((name ≡ directory.team_offset) × ¬ HasName blob name)

-- where the hashes before encryption end, or the linkage, in a blob of so many bytes
abbrev pub AreEndsShown : ℕ → CodeDirectory → ℕ → ℕ → Type 0
AreEndsShown size directory value limit =
    IsAbove value limit (directory.pre_encrypt_offset + directory.code_slots * directory.hash_size) size
    ⊎ IsAbove value limit (directory.linkage_offset + directory.linkage_size) size

-- why it is unsound, in a signature that begins at a place of the image: its hashes, its pages, up to where it covers
-- the image, its names, or what else lies in it
abbrev pub IsSoundnessShown : ℕ → List ℕ → CodeDirectory → ℕ → ℕ → Type 0
IsSoundnessShown start blob directory value limit =
    AreHashesShown (length blob) directory value limit
    ⊎ IsAbove value limit directory.page_size cs.MOST_PAGE_SIZE
    ⊎ IsAbove value limit directory.limit start
    ⊎ Differ value limit directory.code_slots (slots_of directory.page_size directory.limit)
    ⊎ (IsNameShown blob directory value × (limit ≡ length blob))
    ⊎ AreEndsShown (length blob) directory value limit

-- of a blob that should be a sound one
abbrev pub IsUnsoundShown : ℕ → List ℕ → ℕ → ℕ → Type 0
IsUnsoundShown start blob value limit =
    IsFormShown blob value limit
    ⊎ IsSomeAnd (code_directory blob) (λ directory. IsSoundnessShown start blob directory value limit)

-- up to where a code directory covers the image, and where the signature begins
abbrev pub IsLimitShown : ℕ → List ℕ → ℕ → ℕ → ℕ → Type 0
IsLimitShown start signature k value limit =
    IsSomeAnd (code_directory (bytes_at signature k)) (λ directory. Differ value limit directory.limit start)

-- The rules

-- the signature of an image, which lies in it
abbrev pub IsSignatureOf : List ℕ → Span → List ℕ → Type 0
IsSignatureOf image table signature = IsWhole image (named_table image loader.LC_CODE_SIGNATURE) table signature

-- what is shown of a rule that is broken at a place of the image: at the first byte of its signature P, and at the entry
-- k of one that begins at a place of the image Q
abbrev pub ShowsSignature : List ℕ → ℕ → ℕ → ℕ → (List ℕ → ℕ → ℕ → Type 0) → (ℕ → List ℕ → ℕ → ℕ → ℕ → Type 0) → Type 0
ShowsSignature image place value limit P Q =
    (table : Span) × (signature : List ℕ) × IsSignatureOf image table signature
    × (((place ≡ table.start) × P signature value limit)
    ⊎ ((k : ℕ) × (place ≡ table.start + entry_offset k) × Q table.start signature k value limit))
