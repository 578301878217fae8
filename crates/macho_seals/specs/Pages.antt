-- The pages of a code directory, and where its hashes of them are. (cs_blobs.h: CS_CodeDirectory)
use Rattle.std.specs.Prelude.{ℕ, ◌+◌, ◌-◌, ◌*◌, ◌^◌, ◌==◌, min, List, if◌then◌else◌}
use Rattle.macho_fields.specs.Field.{part}
use Rattle.macho_seals.specs.Digests.{HasHash}
use Rattle.macho_signature.specs.declared.code_directory.CodeDirectory.{CodeDirectory}
use Rattle.macho_spans.specs.declared.span.Span.{Span}
use Rattle.macho_tables.specs.Items.{AtItem}

-- the bytes at the places of a span
abbrev pub bytes_in : List ℕ → Span → List ℕ
bytes_in bytes span = part span.start span.len bytes

-- the page k of the bytes before a limit: 2 ^ page_size bytes, or those that are left of them; with page_size 0 one
-- page has them all
abbrev pub page_span : ℕ → ℕ → ℕ → Span
page_span page_size limit k =
    if page_size == 0 then record { start = 0; len = limit }
    else record { start = k * 2 ^ page_size; len = min (2 ^ page_size) (limit - k * 2 ^ page_size) }

-- the page k of a code directory
abbrev pub page_at : CodeDirectory → ℕ → Span
page_at directory k = page_span directory.page_size directory.limit k

-- its hash, in the blob of the directory: the hashes are one past the other, from hashOffset on
abbrev pub code_slot : CodeDirectory → ℕ → Span
code_slot directory k = record {
  start = directory.hash_offset + k * directory.hash_size;
  len = directory.hash_size;
}

-- the image has another page k than the directory with this blob
abbrev pub IsOtherPage : List ℕ → List ℕ → CodeDirectory → ℕ → Type 0
IsOtherPage image blob directory k =
    ¬ HasHash directory.hash_type (bytes_in image (page_at directory k)) (bytes_in blob (code_slot directory k))

-- at the first byte of the page
abbrev pub BadPage : List ℕ → List ℕ → CodeDirectory → ℕ → Type 0
BadPage image blob directory place =
    AtItem (λ k. (page_at directory k).start) directory.code_slots (IsOtherPage image blob directory) place
