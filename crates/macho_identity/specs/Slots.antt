-- The slots that the index of a signature has for blobs, and the magic numbers of the blobs in them. (cs_blobs.h:
-- CSSLOT_CODEDIRECTORY, CSMAGIC_CODEDIRECTORY and the constants beside them)
use Rattle.std.specs.Prelude.{◌≡◌, ◌≢◌, ℕ, ◌+◌, ◌-◌, ◌==◌, ◌&&◌, ◌||◌, nat_le, nat_lt, List, Bool, Option, Some, None, MatchOption, if◌then◌else◌}
use Rattle.macho_fields.specs.declared.header.cs_blobs.TheConstants as cs
use Rattle.macho_signature.specs.Superblobs.{big_word, blob_at, is_directory_slot}

-- the magic number of a blob in a slot, and none if readers do not know the slot
abbrev pub magic_of_slot : ℕ → Option ℕ
magic_of_slot slot =
    if is_directory_slot slot then Some cs.CSMAGIC_CODEDIRECTORY
    else (if slot == cs.CSSLOT_REQUIREMENTS then Some cs.CSMAGIC_REQUIREMENTS
    else (if slot == cs.CSSLOT_ENTITLEMENTS then Some cs.CSMAGIC_EMBEDDED_ENTITLEMENTS
    else (if slot == cs.CSSLOT_DER_ENTITLEMENTS then Some cs.CSMAGIC_EMBEDDED_DER_ENTITLEMENTS
    else (if nat_le cs.CSSLOT_LAUNCH_CONSTRAINT_SELF slot && nat_le slot cs.CSSLOT_LIBRARY_CONSTRAINT
    then Some cs.CSMAGIC_EMBEDDED_LAUNCH_CONSTRAINT
    else (if slot == cs.CSSLOT_SIGNATURESLOT then Some cs.CSMAGIC_BLOBWRAPPER else None)))))

-- a known slot has the magic number
abbrev pub IsKnownMagic : ℕ → Type 0
IsKnownMagic magic = (slot : ℕ) × (magic_of_slot slot ≡ Some magic)

-- the same as a test
abbrev pub is_known_magic : ℕ → Bool
is_known_magic magic =
    magic == cs.CSMAGIC_CODEDIRECTORY
    || (magic == cs.CSMAGIC_REQUIREMENTS
    || (magic == cs.CSMAGIC_EMBEDDED_ENTITLEMENTS
    || (magic == cs.CSMAGIC_EMBEDDED_DER_ENTITLEMENTS
    || (magic == cs.CSMAGIC_EMBEDDED_LAUNCH_CONSTRAINT || magic == cs.CSMAGIC_BLOBWRAPPER))))

-- the slot has another magic number; or it has none, and a known slot has the magic number
abbrev pub IsMisfit : ℕ → ℕ → Type 0
IsMisfit slot magic = MatchOption (magic_of_slot slot) (IsKnownMagic magic) (λ known. magic ≢ known)

-- CS_GenericBlob, at the offset of the blob k: magic at 0
abbrev pub magic_at : List ℕ → ℕ → ℕ
magic_at signature k = big_word signature (blob_at signature k).offset

-- The slots that have a name, by numbers from 0 on: the slots with a hash in code directories, the other slots of code
-- directories, and the slots past them. A slot without a name has no number.
abbrev pub is_alternate_slot : ℕ → Bool
is_alternate_slot slot =
    nat_le cs.CSSLOT_ALTERNATE_CODEDIRECTORIES slot
    && nat_lt slot (cs.CSSLOT_ALTERNATE_CODEDIRECTORIES + cs.CSSLOT_ALTERNATE_CODEDIRECTORY_MAX)

abbrev pub is_late_slot : ℕ → Bool
is_late_slot slot = nat_le cs.CSSLOT_SIGNATURESLOT slot && nat_le slot cs.CSSLOT_TICKETSLOT

abbrev pub slot_number : ℕ → Option ℕ
slot_number slot =
    if nat_le slot cs.CSSLOT_LIBRARY_CONSTRAINT then Some slot
    else (if is_alternate_slot slot
    then Some (cs.CSSLOT_LIBRARY_CONSTRAINT + 1 + (slot - cs.CSSLOT_ALTERNATE_CODEDIRECTORIES))
    else (if is_late_slot slot
    then Some (cs.CSSLOT_LIBRARY_CONSTRAINT + 1 + cs.CSSLOT_ALTERNATE_CODEDIRECTORY_MAX + (slot - cs.CSSLOT_SIGNATURESLOT))
    else None))
