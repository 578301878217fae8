-- The blobs of a signature whose hashes are in the special slots of its code directories, as requirements and
-- entitlements. An offset is one in the signature. (cs_blobs.h: CSSLOT_REQUIREMENTS, CSSLOT_ENTITLEMENTS and the slots
-- beside them; CS_CodeDirectory.nSpecialSlots)
use Rattle.std.specs.Prelude.{◌≡◌, ℕ, ◌-◌, ◌*◌, ◌≤◌, ◌&&◌, nat_lt, List, Bool, true}
use Rattle.macho_seals.specs.Digests.{HasHash}
use Rattle.macho_seals.specs.Pages.{bytes_in}
use Rattle.macho_signature.specs.Signature.{bytes_at}
use Rattle.macho_signature.specs.Superblobs.{blob_at, blob_count}
use Rattle.macho_signature.specs.declared.code_directory.CodeDirectory.{CodeDirectory}
use Rattle.macho_fields.specs.declared.header.cs_blobs.TheConstants as cs
use Rattle.macho_spans.specs.declared.span.Span.{Span}
use Rattle.macho_tables.specs.Items.{AtItem}

-- the slots of blobs with such a hash: those between the code directory that each signature has and the others
abbrev pub is_special_slot : ℕ → Bool
is_special_slot slot = nat_lt cs.CSSLOT_CODEDIRECTORY slot && nat_lt slot cs.CSSLOT_ALTERNATE_CODEDIRECTORIES

-- the blob k is in one
abbrev pub IsSpecialAt : List ℕ → ℕ → Type 0
IsSpecialAt signature k = is_special_slot (blob_at signature k).slot ≡ true

-- where the hash of a slot is in the blob of a directory: slot 1 is the last one before hashOffset, and slot 2 is
-- before that
abbrev pub special_slot : CodeDirectory → ℕ → Span
special_slot directory slot = record {
  start = directory.hash_offset - slot * directory.hash_size;
  len = directory.hash_size;
}

-- the directory with this blob has the slot, and in it the hash of a message
abbrev pub HasSpecialHash : List ℕ → CodeDirectory → ℕ → List ℕ → Type 0
HasSpecialHash blob directory slot message =
    (slot ≤ directory.special_slots)
    × HasHash directory.hash_type message (bytes_in blob (special_slot directory slot))

-- it lacks the hash of the blob k, which is in a special slot
abbrev pub IsOtherSpecial : List ℕ → List ℕ → CodeDirectory → ℕ → Type 0
IsOtherSpecial signature blob directory k =
    IsSpecialAt signature k
    × ¬ HasSpecialHash blob directory (blob_at signature k).slot (bytes_at signature k)

-- at the first byte of that blob
abbrev pub BadSpecial : List ℕ → List ℕ → CodeDirectory → ℕ → Type 0
BadSpecial signature blob directory offset =
    AtItem (λ k. (blob_at signature k).offset) (blob_count signature) (IsOtherSpecial signature blob directory) offset
