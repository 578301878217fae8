-- The rule signature-slot, of the code signature of an image: all readers find one blob in a slot. An offset is one in
-- the signature. (cs_blobs.h: CS_SuperBlob, CS_BlobIndex, CS_GenericBlob)
use Rattle.std.specs.Prelude.{◌≡◌, ℕ, ◌<◌, ◌⊎◌, List, None}
use Rattle.macho_fields.specs.Universal.{WithEarlier}
use Rattle.macho_identity.specs.Slots.{slot_number, magic_at, IsMisfit}
use Rattle.macho_seals.specs.Signature.{HaveSameSlot}
use Rattle.macho_signature.specs.Signature.{InSignature}
use Rattle.macho_signature.specs.Superblobs.{blob_at, blob_count, entry_offset}
use Rattle.macho_tables.specs.Items.{AtItem}

-- the entry k has the slot of an earlier one
abbrev pub RepeatsSlot : List ℕ → ℕ → Type 0
RepeatsSlot signature = WithEarlier (HaveSameSlot signature)

-- its slot has no name, and an earlier entry has a greater slot without a name. Slots without a name rise, so that one
-- walk over the index finds each repetition.
abbrev pub IsUnnamed : List ℕ → ℕ → Type 0
IsUnnamed signature k = slot_number (blob_at signature k).slot ≡ None

abbrev pub IsOutOfOrder : List ℕ → ℕ → Type 0
IsOutOfOrder signature k =
    IsUnnamed signature k
    × WithEarlier (λ j i. IsUnnamed signature j × ((blob_at signature i).slot < (blob_at signature j).slot)) k

-- the rule, at an entry
abbrev pub IsBadSlot : List ℕ → ℕ → Type 0
IsBadSlot signature k =
    RepeatsSlot signature k
    ⊎ (IsOutOfOrder signature k ⊎ IsMisfit (blob_at signature k).slot (magic_at signature k))

abbrev pub BadSlot : List ℕ → ℕ → Type 0
BadSlot signature offset = AtItem entry_offset (blob_count signature) (IsBadSlot signature) offset

-- of an image
abbrev pub BreaksSignatureSlot : List ℕ → ℕ → Type 0
BreaksSignatureSlot image place = InSignature image (λ start. BadSlot) place
