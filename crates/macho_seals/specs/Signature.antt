-- The sealed rules of the code signature of an image, which begins at a place of the image. An offset is one in the
-- signature. (cs_blobs.h: CS_SuperBlob, CS_CodeDirectory; mach-o/loader.h: LC_CODE_SIGNATURE)
use Rattle.std.specs.Prelude.{◌≡◌, ℕ, ◌+◌, ◌≤◌, ◌<◌, ◌⊎◌, List, IsSomeAnd}
use Rattle.macho_fields.specs.Field.{part}
use Rattle.macho_fields.specs.NonZero.{IsNonZero}
use Rattle.macho_fields.specs.Universal.{WithEarlier}
use Rattle.macho_fields.specs.declared.header.loader.TheConstants as loader
use Rattle.macho_seals.specs.Executable.{IsExecutableIn}
use Rattle.macho_seals.specs.Pages.{BadPage}
use Rattle.macho_seals.specs.Specials.{BadSpecial}
use Rattle.macho_signature.specs.CodeDirectories.{code_directory}
use Rattle.macho_signature.specs.Signature.{IsDirectoryAt, bytes_at, HasMain, InSignature}
use Rattle.macho_signature.specs.Superblobs.{blob_at, blob_count, blob_span, entry_offset}
use Rattle.macho_signature.specs.declared.code_directory.CodeDirectory.{CodeDirectory}
use Rattle.macho_spans.specs.Span.{Holds}
use Rattle.macho_spans.specs.declared.span.Span.{Span}
use Rattle.macho_tables.specs.DataTables.{IsDataTable}
use Rattle.macho_tables.specs.Items.{AtItem, OfItem}

-- signature-missing: the image has no signature with the code directory that each has
abbrev pub HasSignature : List ℕ → Type 0
HasSignature image =
    (table : Span) × IsDataTable image loader.LC_CODE_SIGNATURE table
    × (let signature = part table.start table.len image in HasMain signature (blob_count signature))

abbrev pub BreaksSignatureMissing : List ℕ → ℕ → Type 0
BreaksSignatureMissing image place = (place ≡ 0) × ¬ HasSignature image

-- signature-executable, at a segment: it may execute a byte of the signature
abbrev pub BreaksSignatureExecutable : List ℕ → ℕ → Type 0
BreaksSignatureExecutable image place =
    (table : Span) × IsDataTable image loader.LC_CODE_SIGNATURE table × IsExecutableIn table image place

-- directory-repeated, at an entry: its slot is the slot of an earlier entry, and a slot of code directories
abbrev pub HaveSameSlot : List ℕ → ℕ → ℕ → Type 0
HaveSameSlot signature j k = (blob_at signature j).slot ≡ (blob_at signature k).slot

abbrev pub IsRepeated : List ℕ → ℕ → Type 0
IsRepeated signature k = IsDirectoryAt signature k × WithEarlier (HaveSameSlot signature) k

abbrev pub RepeatedDirectory : List ℕ → ℕ → Type 0
RepeatedDirectory signature offset = AtItem entry_offset (blob_count signature) (IsRepeated signature) offset

-- no entry is so: no two code directories are in one slot
abbrev pub AreApart : List ℕ → Type 0
AreApart signature =
    (j k : ℕ) → j < k → k < blob_count signature → IsDirectoryAt signature k → ¬ HaveSameSlot signature j k

-- signature-slack, at a byte of the image from the start of the signature on, up to the end of the image: it is not
-- zero, and lies neither in the superblob with its index nor in a blob
abbrev pub IsSlack : List ℕ → ℕ → Type 0
IsSlack signature offset =
    (entry_offset (blob_count signature) ≤ offset)
    × ((k : ℕ) → k < blob_count signature → ¬ Holds (blob_span (blob_at signature k)) offset)

abbrev pub NonZeroSlack : List ℕ → ℕ → List ℕ → ℕ → Type 0
NonZeroSlack image start signature offset = IsNonZero image (start + offset) × IsSlack signature offset

-- signature-hash, at a page or at a blob in a special slot: a code directory has another hash. The place is one in
-- the image.
abbrev pub HasOtherHash : List ℕ → ℕ → List ℕ → List ℕ → CodeDirectory → ℕ → Type 0
HasOtherHash image start signature blob directory place =
    BadPage image blob directory place
    ⊎ ((offset : ℕ) × (place ≡ start + offset) × BadSpecial signature blob directory offset)

-- the hash of the blob k has
abbrev pub HasOtherHashAt : List ℕ → ℕ → List ℕ → ℕ → ℕ → Type 0
HasOtherHashAt image start signature k place =
    IsDirectoryAt signature k
    × IsSomeAnd (code_directory (bytes_at signature k))
    (λ directory. HasOtherHash image start signature (bytes_at signature k) directory place)

abbrev pub BadHash : List ℕ → ℕ → List ℕ → ℕ → Type 0
BadHash image start signature place =
    OfItem (blob_count signature) (HasOtherHashAt image start signature) place

-- The rules of an image

abbrev pub BreaksDirectoryRepeated : List ℕ → ℕ → Type 0
BreaksDirectoryRepeated image place = InSignature image (λ start. RepeatedDirectory) place

abbrev pub BreaksSignatureSlack : List ℕ → ℕ → Type 0
BreaksSignatureSlack image place = InSignature image (NonZeroSlack image) place

abbrev pub BreaksSignatureHash : List ℕ → ℕ → Type 0
BreaksSignatureHash image place =
    (table : Span) × IsDataTable image loader.LC_CODE_SIGNATURE table
    × BadHash image table.start (part table.start table.len image) place
