-- What an explanation shows of the rules of the sealed profile. (docs/reference/explain.md; cs_blobs.h: CS_CodeDirectory)
use Rattle.std.specs.Prelude.{◌≡◌, ℕ, zero, suc, ◌+◌, ◌≤◌, ◌<◌, ◌⊎◌, List, length, IsSomeAnd, Some, true, if◌then◌else◌}
use Rattle.macho_fields.specs.Bytes.{bytes_of}
use Rattle.macho_seals.specs.Pages.{page_at, BadPage, IsOtherPage}
use Rattle.macho_seals.specs.Specials.{is_special_slot, BadSpecial, IsOtherSpecial}
use Rattle.macho_signature.specs.CodeDirectories.{code_directory, IsSound}
use Rattle.macho_signature.specs.Signature.{bytes_at, IsDirectoryAt}
use Rattle.macho_signature.specs.Superblobs.{blob_at, blob_count, blob_end, entry_offset, is_directory_slot, AreGoodBlobs}
use Rattle.macho_signature.specs.declared.code_directory.CodeDirectory.{CodeDirectory}
use Rattle.macho_spans.specs.declared.span.Span.{Span}
use Rattle.macho_explain.specs.Signatures.{IsSignatureOf}
use Rattle.macho_explain.specs.Wholes.{Opens}
use Rattle.macho_explain.specs.declared.seal.Directory.{Directory}
use Rattle.macho_explain.specs.declared.seal.Hashed.{Hashed}
use Rattle.macho_explain.specs.declared.seal.Hashed.TheVariants as hashed

-- At the place of the image is an entry of its signature, in a slot of code directories. An earlier entry is in the
-- same slot, which has this number.
abbrev pub IsRepeatShown : List ℕ → ℕ → ℕ → Type 0
IsRepeatShown image place slot =
    (table : Span) × (signature : List ℕ) × IsSignatureOf image table signature
    × (j : ℕ) × (k : ℕ) × (j < k) × (place ≡ table.start + entry_offset k) × IsDirectoryAt signature k
    × (slot ≡ (blob_at signature j).slot) × (slot ≡ (blob_at signature k).slot)

-- the page with this number of a code directory, which has that blob, begins at the place, and has another hash than
-- the directory has for it
abbrev pub IsPageShown : List ℕ → List ℕ → CodeDirectory → ℕ → ℕ → ℕ → Type 0
IsPageShown image blob directory place page count =
    (place ≡ (page_at directory page).start) × (page < count) × (count ≡ directory.code_slots)
    × IsOtherPage image blob directory page

-- a blob in the special slot with this number begins at the place, in a signature that begins at `start`, and the
-- directory has another hash
abbrev pub IsSpecialShown : ℕ → List ℕ → List ℕ → CodeDirectory → ℕ → ℕ → ℕ → Type 0
IsSpecialShown start signature blob directory place slot count =
    (k : ℕ) × (place ≡ start + (blob_at signature k).offset) × (slot ≡ (blob_at signature k).slot)
    × (count ≡ directory.special_slots) × IsOtherSpecial signature blob directory k

abbrev pub IsOtherShown : List ℕ → ℕ → List ℕ → List ℕ → CodeDirectory → ℕ → ℕ → ℕ → Type 0
IsOtherShown image start signature blob directory place number count =
    IsPageShown image blob directory place number count
    ⊎ IsSpecialShown start signature blob directory place number count

-- a hash of a page or of a special slot, in a code directory of the signature
abbrev pub IsHashShown : List ℕ → ℕ → List ℕ → ℕ → ℕ → ℕ → Type 0
IsHashShown image start signature place number count =
    (k : ℕ) × (directory : CodeDirectory) × IsDirectoryAt signature k
    × (code_directory (bytes_at signature k) ≡ Some directory)
    × IsOtherShown image start signature (bytes_at signature k) directory place number count

-- of the signature of an image
abbrev pub ShowsHash : List ℕ → ℕ → ℕ → ℕ → Type 0
ShowsHash image place number count =
    (table : Span) × (signature : List ℕ) × IsSignatureOf image table signature
    × IsHashShown image table.start signature place number count

-- the blob k is a sound code directory, and it differs
abbrev pub DiffersAt : (List ℕ → CodeDirectory → Type 0) → ℕ → List ℕ → ℕ → Type 0
DiffersAt Differs start signature k =
    IsDirectoryAt signature k
    × IsSomeAnd (code_directory (bytes_at signature k))
    (λ directory. IsSound start (bytes_at signature k) directory × Differs (bytes_at signature k) directory)

-- how many of the blobs before the blob k are in slots of code directories
abbrev pub directories_before : List ℕ → ℕ → ℕ
directories_before signature zero = 0
directories_before signature (suc k) =
    directories_before signature k + (if is_directory_slot (blob_at signature k).slot then 1 else 0)

-- no blob is misplaced, and a sound code directory differs: one of the first six, as many as there are slots for them
abbrev pub HasDiffering : (List ℕ → CodeDirectory → Type 0) → ℕ → List ℕ → Type 0
HasDiffering Differs start signature =
    AreGoodBlobs signature
    × ((k : ℕ) × (k < blob_count signature) × (directories_before signature k < 6)
    × DiffersAt Differs start signature k)

-- A code directory has another hash of a page that begins at the place, which is before the signature; or of a blob in
-- a special slot that begins there.
abbrev pub HasOtherHash : List ℕ → Span → List ℕ → ℕ → Type 0
HasOtherHash image table signature place =
    ((place < table.start) × HasDiffering (λ blob directory. BadPage image blob directory place) table.start signature)
    ⊎ ((offset : ℕ) × (place ≡ table.start + offset)
    × HasDiffering (λ blob directory. BadSpecial signature blob directory offset) table.start signature)

-- of the signature of an image
abbrev pub HasOtherHashes : List ℕ → ℕ → Type 0
HasOtherHashes image place =
    Opens image
    × ((table : Span) × (signature : List ℕ) × IsSignatureOf image table signature
    × HasOtherHash image table signature place)

-- What only proofs need.

-- a sound code directory of a signature
pub record IsDirectoryOf (start : ℕ) (signature : List ℕ) (directory : Directory) : Type 0 where
  pub bytes : bytes_of directory.bytes ≡ bytes_at signature directory.index
  pub slot : IsDirectoryAt signature directory.index
  pub fields : code_directory (bytes_of directory.bytes) ≡ Some directory.fields
  pub sound : IsSound start (bytes_of directory.bytes) directory.fields

-- what has a hash is there
abbrev pub IsHashed : List ℕ → Hashed → Type 0
IsHashed signature (hashed.Page place) = Unit {0}
IsHashed signature (hashed.Special k blob) =
    (blob ≡ blob_at signature k) × (blob_end blob ≤ length signature) × (is_special_slot blob.slot ≡ true)

-- where it begins in the image
abbrev pub place_of : ℕ → Hashed → ℕ
place_of start (hashed.Page place) = place
place_of start (hashed.Special k blob) = start + blob.offset

-- a code directory with this blob has another hash of it
abbrev pub IsOther : List ℕ → List ℕ → Hashed → List ℕ → CodeDirectory → Type 0
IsOther image signature (hashed.Page place) blob directory = BadPage image blob directory place
IsOther image signature (hashed.Special k b) blob directory = IsOtherSpecial signature blob directory k
