-- The code directories of a signature, each at the number of its slot, and what they have other hashes of. No rule
-- speaks of them so; the verdict finds them once. (cs_blobs.h: CS_CodeDirectory)
use Rattle.std.specs.Prelude.{◌≡◌, ℕ, ◌≤◌, ◌<◌, List, length, get_or, Option, None, Some, MatchOption, IfSome, IsSomeAnd}
use Rattle.macho_fields.specs.Bytes.{bytes_of}
use Rattle.macho_seals.specs.Digests.{HasHash}
use Rattle.macho_seals.specs.Pages.{bytes_in, code_slot, BadPage}
use Rattle.macho_seals.specs.Slots.{slot_number}
use Rattle.macho_seals.specs.Specials.{HasSpecialHash, BadSpecial}
use Rattle.macho_seals.specs.declared.directories.Directory.{Directory}
use Rattle.macho_seals.specs.declared.slots.TheConstants as slots
use Rattle.macho_signature.specs.CodeDirectories.{code_directory, HasHashes, IsSound}
use Rattle.macho_signature.specs.Signature.{IsDirectoryAt, bytes_at}
use Rattle.macho_signature.specs.Superblobs.{blob_at, blob_count}
use Rattle.macho_signature.specs.declared.code_directory.CodeDirectory.{CodeDirectory}

-- each of them has P, and one of them has it
abbrev pub EachDirectory : List (Option Directory) → (Directory → Type 0) → Type 0
EachDirectory directories P = (n : ℕ) → IfSome (get_or directories n None) P

abbrev pub AnyDirectory : List (Option Directory) → (Directory → Type 0) → Type 0
AnyDirectory directories P = (n : ℕ) × IsSomeAnd (get_or directories n None) P

-- Those of a signature

-- the code directory that a blob is, with the bytes of that, or none
abbrev pub IsDirectoryOf : List ℕ → Option Directory → Type 0
IsDirectoryOf blob found =
    MatchOption found (code_directory blob ≡ None)
    (λ directory. (bytes_of directory.blob ≡ blob) × (code_directory blob ≡ Some directory.fields))

-- the directory of an entry in a slot of code directories
abbrev pub IsDirectoryAmong : List ℕ → ℕ → Option Directory → Type 0
IsDirectoryAmong signature count found =
    (k : ℕ) × (k < count) × IsDirectoryAt signature k × IsDirectoryOf (bytes_at signature k) found

-- the directories of the first entries, so many, are each at the number of its slot, and no others are there
pub record AreDirectories (signature : List ℕ) (count : ℕ) (directories : List (Option Directory)) : Type 0 where
  pub size : length directories ≡ slots.DIRECTORY_SLOTS
  pub placed : (k : ℕ) → k < count → IsDirectoryAt signature k
      → IsDirectoryOf (bytes_at signature k) (get_or directories (slot_number (blob_at signature k).slot) None)
  pub only : EachDirectory directories (λ directory. IsDirectoryAmong signature count (Some directory))

-- one is sound, and has hashes of all bytes before a limit
abbrev pub IsWholeBefore : ℕ → Directory → Type 0
IsWholeBefore limit directory =
    IsSound limit (bytes_of directory.blob) directory.fields × (directory.fields.limit ≡ limit)

-- all are, with one limit in the image
pub record AreWhole (image : List ℕ) (directories : List (Option Directory)) : Type 0 where
  pub limit : ℕ
  pub inside : limit ≤ length image
  pub each : EachDirectory directories (IsWholeBefore limit)

-- Their hashes

-- the hashes of one lie in its blob
abbrev pub HasHashesInside : Directory → Type 0
HasHashesInside directory = HasHashes (length (bytes_of directory.blob)) directory.fields

-- it has pages of this size, and of another
abbrev pub HasPageSize : ℕ → Directory → Type 0
HasPageSize page_size directory = directory.fields.page_size ≡ page_size

abbrev pub HasOtherSize : ℕ → Directory → Type 0
HasOtherSize page_size directory = ¬ HasPageSize page_size directory

-- one of them has these fields, and pages of this size
abbrev pub IsOneOfSize : List (Option Directory) → ℕ → CodeDirectory → Type 0
IsOneOfSize directories page_size fields =
    AnyDirectory directories (λ directory. HasPageSize page_size directory × (directory.fields ≡ fields))

-- the hash of a page k of this size lies in its blob
abbrev pub HasSlotFor : ℕ → ℕ → Directory → Type 0
HasSlotFor page_size k directory =
    HasHashesInside directory × (HasPageSize page_size directory → k < directory.fields.code_slots)

-- it has the hash of the page k
abbrev pub HasPage : ℕ → List ℕ → Directory → Type 0
HasPage k page directory =
    HasHash directory.fields.hash_type page (bytes_in (bytes_of directory.blob) (code_slot directory.fields k))

-- if its pages are of this size; they are, and it lacks the hash
abbrev pub HasPageOfSize : ℕ → ℕ → List ℕ → Directory → Type 0
HasPageOfSize page_size k page directory = HasPageSize page_size directory → HasPage k page directory

abbrev pub LacksPageOfSize : ℕ → ℕ → List ℕ → Directory → Type 0
LacksPageOfSize page_size k page directory = HasPageSize page_size directory × ¬ HasPage k page directory

-- it has the special slot, and in it the hash of the message; it lacks the hash
abbrev pub HasSpecial : ℕ → List ℕ → Directory → Type 0
HasSpecial slot message directory = HasSpecialHash (bytes_of directory.blob) directory.fields slot message

abbrev pub LacksSpecial : ℕ → List ℕ → Directory → Type 0
LacksSpecial slot message directory = ¬ HasSpecial slot message directory

-- What they have other hashes of

-- one has, of a page at a place of the image: of any, of one of this size, and of one of a lesser size
abbrev pub HasOtherPage : List ℕ → ℕ → Directory → Type 0
HasOtherPage image place directory = BadPage image (bytes_of directory.blob) directory.fields place

abbrev pub HasOtherOfSize : List ℕ → ℕ → ℕ → Directory → Type 0
HasOtherOfSize image page_size place directory = HasPageSize page_size directory × HasOtherPage image place directory

abbrev pub HasOtherBelow : List ℕ → ℕ → ℕ → Directory → Type 0
HasOtherBelow image page_size place directory =
    (directory.fields.page_size < page_size) × HasOtherPage image place directory

-- of a blob in a special slot, at an offset of the signature
abbrev pub HasOtherSpecial : List ℕ → ℕ → Directory → Type 0
HasOtherSpecial signature offset directory = BadSpecial signature (bytes_of directory.blob) directory.fields offset

-- one of them has
abbrev pub HaveOtherPage : List ℕ → List (Option Directory) → ℕ → Type 0
HaveOtherPage image directories place = AnyDirectory directories (HasOtherPage image place)

abbrev pub HaveOtherOfSize : List ℕ → List (Option Directory) → ℕ → ℕ → Type 0
HaveOtherOfSize image directories page_size place = AnyDirectory directories (HasOtherOfSize image page_size place)

abbrev pub HaveOtherBelow : List ℕ → List (Option Directory) → ℕ → ℕ → Type 0
HaveOtherBelow image directories page_size place = AnyDirectory directories (HasOtherBelow image page_size place)

abbrev pub HaveOtherSpecial : List ℕ → List (Option Directory) → ℕ → Type 0
HaveOtherSpecial signature directories offset = AnyDirectory directories (HasOtherSpecial signature offset)
