-- The superblob of a code signature, and the blobs in it. An offset is one in the signature, which begins with the
-- superblob. All numbers are big-endian. (cs_blobs.h: CS_SuperBlob, CS_BlobIndex, CS_GenericBlob)
use Rattle.std.specs.Prelude.{◌≡◌, ◌≢◌, ℕ, zero, suc, ◌+◌, ◌*◌, ◌<◌, ◌⊎◌, ◌==◌, ◌&&◌, ◌||◌, nat_lt, nat_le, List, length, Bool}
use Rattle.macho_fields.specs.Field.{number, part}
use Rattle.macho_fields.specs.declared.bytes.Order.TheVariants.{Big}
use Rattle.macho_tables.specs.Items.{AtItem}
use Rattle.macho_fields.specs.declared.header.cs_blobs.TheConstants as cs
use Rattle.macho_signature.specs.declared.superblob.Blob.{Blob}
use Rattle.macho_signature.specs.declared.superblob.Superblob.{Superblob}
use Rattle.macho_spans.specs.declared.span.Span.{Span}

-- a field of 32 bits, and one of 64
abbrev pub big_word : List ℕ → ℕ → ℕ
big_word bytes offset = number Big 4 bytes offset

abbrev pub big_long : List ℕ → ℕ → ℕ
big_long bytes offset = number Big 8 bytes offset

-- CS_SuperBlob: magic at 0, length 4, count 8, and the index at 12, of so many entries
abbrev pub superblob_at : List ℕ → Superblob
superblob_at signature = record { length = big_word signature 4; count = big_word signature 8 }

abbrev pub blob_count : List ℕ → ℕ
blob_count signature = (superblob_at signature).count

-- where the entry k of the index is, and, of the count, where the index ends
abbrev pub entry_offset : ℕ → ℕ
entry_offset k = cs.CS_SUPER_BLOB_SIZE + k * cs.CS_BLOB_INDEX_SIZE

-- CS_BlobIndex: type at 0 and offset at 4. CS_GenericBlob, at that offset: magic at 0 and length at 4, which counts
-- these 8 bytes
abbrev pub blob_at : List ℕ → ℕ → Blob
blob_at signature k = record {
  slot = big_word signature (entry_offset k);
  offset = big_word signature (entry_offset k + 4);
  length = big_word signature (big_word signature (entry_offset k + 4) + 4);
}

-- the first offset past a blob, and its bytes
abbrev pub blob_end : Blob → ℕ
blob_end blob = blob.offset + blob.length

abbrev pub blob_span : Blob → Span
blob_span blob = record { start = blob.offset; len = blob.length }

abbrev pub blob_bytes : List ℕ → Blob → List ℕ
blob_bytes signature blob = part blob.offset blob.length signature

-- the least offset of the blob k: where the index ends, or the blob before it
abbrev pub least_offset : List ℕ → ℕ → ℕ
least_offset signature zero = entry_offset (blob_count signature)
least_offset signature (suc k) = blob_end (blob_at signature k)

-- The slots of code directories: the slot of the one in each signature, and of up to five others
abbrev pub is_directory_slot : ℕ → Bool
is_directory_slot slot =
    slot == cs.CSSLOT_CODEDIRECTORY
    || (nat_le cs.CSSLOT_ALTERNATE_CODEDIRECTORIES slot
    && nat_lt slot (cs.CSSLOT_ALTERNATE_CODEDIRECTORIES + cs.CSSLOT_ALTERNATE_CODEDIRECTORY_MAX))

-- The rule signature-blob

-- the signature has no superblob: it is shorter, or the magic is another; or the superblob ends past the signature,
-- or its index past the superblob
abbrev pub HasNoSuperblob : List ℕ → Type 0
HasNoSuperblob signature =
    let superblob = superblob_at signature in
    (length signature < cs.CS_SUPER_BLOB_SIZE)
    ⊎ (big_word signature 0 ≢ cs.CSMAGIC_EMBEDDED_SIGNATURE)
    ⊎ (length signature < superblob.length)
    ⊎ (superblob.length < entry_offset superblob.count)

-- a blob begins before an offset, or has no room for its magic and length, or ends past the superblob
abbrev pub IsMisplacedBlob : Superblob → ℕ → Blob → Type 0
IsMisplacedBlob superblob least blob =
    (blob.offset < least)
    ⊎ (superblob.length < blob.offset + cs.CS_GENERIC_BLOB_SIZE)
    ⊎ (blob.length < cs.CS_GENERIC_BLOB_SIZE)
    ⊎ (superblob.length < blob_end blob)

-- the blob k does, or begins in the index or in the blob before it
abbrev pub IsBadBlob : List ℕ → ℕ → Type 0
IsBadBlob signature k =
    IsMisplacedBlob (superblob_at signature) (least_offset signature k) (blob_at signature k)

-- The rule is broken at the offset: at the start of the signature, or at an entry. The fields of a blob past a bad
-- one may lie anywhere; the least place does not depend on them.
abbrev pub BadBlob : List ℕ → ℕ → Type 0
BadBlob signature offset =
    ((offset ≡ 0) × HasNoSuperblob signature)
    ⊎ ((¬ HasNoSuperblob signature)
    × AtItem entry_offset (blob_count signature) (IsBadBlob signature) offset)

-- it is not broken
pub record AreGoodBlobs (signature : List ℕ) : Type 0 where
  pub superblob : ¬ HasNoSuperblob signature
  pub blobs : (k : ℕ) → k < blob_count signature → ¬ IsBadBlob signature k

-- The same as tests, for lists of what passes them

-- a signature has a superblob, which ends in it, and whose index ends in that
abbrev pub has_superblob : List ℕ → Bool
has_superblob signature =
    nat_le cs.CS_SUPER_BLOB_SIZE (length signature)
    && (big_word signature 0 == cs.CSMAGIC_EMBEDDED_SIGNATURE
    && (nat_le (superblob_at signature).length (length signature)
    && nat_le (entry_offset (blob_count signature)) (superblob_at signature).length))

-- a blob begins at the least offset or past it, has room for its magic and length, and ends in the superblob
abbrev pub is_placed : Superblob → ℕ → Blob → Bool
is_placed superblob least blob =
    nat_le least blob.offset
    && (nat_le (blob.offset + cs.CS_GENERIC_BLOB_SIZE) superblob.length
    && (nat_le cs.CS_GENERIC_BLOB_SIZE blob.length && nat_le (blob_end blob) superblob.length))
