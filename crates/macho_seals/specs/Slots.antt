-- The slots of code directories that the first entries of a signature have.
use Rattle.std.specs.Prelude.{◌≡◌, ◌↔◌, ℕ, ◌+◌, ◌-◌, ◌<◌, ◌==◌, List, length, get_or, Bool, true, false, if◌then◌else◌}
use Rattle.macho_seals.specs.declared.slots.TheConstants as slots
use Rattle.macho_signature.specs.Superblobs.{blob_at, is_directory_slot}
use Rattle.macho_fields.specs.declared.header.cs_blobs.TheConstants as cs

-- they are counted from 0
abbrev pub slot_number : ℕ → ℕ
slot_number slot =
    if slot == cs.CSSLOT_CODEDIRECTORY then 0 else slot - cs.CSSLOT_ALTERNATE_CODEDIRECTORIES + 1

-- one of the first entries, so many, has the slot
abbrev pub HasSlot : List ℕ → ℕ → ℕ → Type 0
HasSlot signature count slot = (j : ℕ) × (j < count) × ((blob_at signature j).slot ≡ slot)

-- it is noted of each slot whether one of them has it
pub record AreTaken (signature : List ℕ) (count : ℕ) (taken : List Bool) : Type 0 where
  pub size : length taken ≡ slots.DIRECTORY_SLOTS
  pub slots : (slot : ℕ) → is_directory_slot slot ≡ true
      → (get_or taken (slot_number slot) false ≡ true) ↔ HasSlot signature count slot
