-- The blobs of the code signature of an image, by its first LC_CODE_SIGNATURE. (cs_blobs.h: CS_SuperBlob,
-- CS_BlobIndex, CS_GenericBlob)
use Rattle.std.specs.Prelude.{◌≡◌, ℕ, zero, suc, ◌+◌, ◌-◌, ◌≤◌, ◌<◌, max, List, [], ◌∷◌, length, map, Option, MatchOption, if◌then◌else◌}
use Rattle.macho_fields.specs.Field.{part}
use Rattle.macho_fields.specs.declared.header.loader.TheConstants as loader
use Rattle.macho_signature.specs.Superblobs.{big_word, superblob_at, blob_count, entry_offset, blob_at, blob_end, has_superblob, is_placed, AreGoodBlobs}
use Rattle.macho_fields.specs.declared.header.cs_blobs.TheConstants as cs
use Rattle.macho_signature.specs.declared.superblob.Blob.{Blob}
use Rattle.macho_rows.specs.Cursor.{begun}
use Rattle.macho_rows.specs.Image.{only}
use Rattle.macho_rows.specs.Linkedit.{dataoff, datasize, named_data}
use Rattle.macho_rows.specs.Spans.{part_or_none, span_of}
use Rattle.macho_c.specs.declared.blobs.KesvuotBlob.{KesvuotBlob}
use Rattle.macho_rows.specs.declared.cursor.KesvuotCursor.{KesvuotCursor}

-- the blobs from the entry k on, up to so many, each past the index and the one before it, up to the first that
-- is not
abbrev pub placed_blobs : List ℕ → ℕ → ℕ → ℕ → List Blob
placed_blobs signature zero k least = []
placed_blobs signature (suc most) k least =
    if is_placed (superblob_at signature) (max least (entry_offset (blob_count signature))) (blob_at signature k)
    then blob_at signature k
    ∷ placed_blobs signature most (suc k) (blob_end (blob_at signature k)) else []

-- those from the entry k on that are in place, and none without a superblob
abbrev pub blobs_from : List ℕ → ℕ → ℕ → List Blob
blobs_from signature k least =
    if has_superblob signature then placed_blobs signature (blob_count signature - k) k least else []

-- what is found is the first from the entry k on, and None without one
abbrev pub IsFirstPlaced : List ℕ → ℕ → ℕ → Option Blob → Type 0
IsFirstPlaced signature k least found =
    MatchOption found (blobs_from signature k least ≡ []) (λ blob.
    (k < blob_count signature) × (blob_end blob ≤ length signature) × (cs.CS_GENERIC_BLOB_SIZE ≤ blob.length)
    × (blobs_from signature k least ≡ blob ∷ blobs_from signature (suc k) (blob_end blob)))

-- the row of a blob, in a signature that begins at `start` in an image that begins at `place` in the file
abbrev pub blob_row : ℕ → List ℕ → ℕ → List ℕ → Blob → KesvuotBlob
blob_row place image start signature blob = record {
  bytes = span_of (place + (start + blob.offset)) (part_or_none (start + blob.offset) blob.length image);
  slot = blob.slot;
  magic = big_word signature blob.offset;
}

-- before the first blob: the signature, from `segment` on, of `items` bytes. `place` is the index of the next
-- entry, and `commands` the least offset of its blob.
abbrev pub first_blob : List ℕ → KesvuotCursor
first_blob image =
    let found = named_data loader.LC_CODE_SIGNATURE image in
    record { place = 0; commands = 0; segment = found.0; items = found.1 }

abbrev pub blobs_at : ℕ → List ℕ → KesvuotCursor → List KesvuotBlob
blobs_at place image cursor =
    let signature = part_or_none cursor.segment cursor.items image in
    map (blob_row place image cursor.segment signature) (blobs_from signature cursor.place cursor.commands)

-- those that remain at a cursor
abbrev pub blobs_left : ℕ → List ℕ → KesvuotCursor → List KesvuotBlob
blobs_left place image cursor = blobs_at place image (begun (first_blob image) cursor)

-- By the image alone: the blobs in place of the data of its command, which all lies inside the image, and each
-- blob of the index if all are good. No blobs without the command.
abbrev pub HasAllBlobs : ℕ → List ℕ → List KesvuotBlob → Type 0
HasAllBlobs place image rows =
    MatchOption (only image loader.LC_CODE_SIGNATURE) (rows ≡ []) (λ command.
    let signature = part (dataoff image command) (datasize image command) image in
    (rows ≡ map (blob_row place image (dataoff image command) signature) (blobs_from signature 0 0))
    × (length signature ≡ datasize image command)
    × (AreGoodBlobs signature → length rows ≡ blob_count signature))
