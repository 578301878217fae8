-- The pointers of chained fixups, and where they break their rules. The offset of a pointer is one in its
-- segment. A chain begins in a page; where chain-slot is unbroken, it ends in it.
-- (mach-o/fixup-chains.h: dyld_chained_starts_in_segment, dyld_chained_ptr_64_rebase,
-- dyld_chained_ptr_64_bind, dyld_chained_ptr_arm64e_rebase, dyld_chained_ptr_arm64e_bind,
-- dyld_chained_ptr_arm64e_bind24)
use Rattle.std.specs.Prelude.{◌≡◌, ◌≢◌, ℕ, suc, ◌+◌, ◌*◌, ◌/◌, ◌%◌, ◌^◌, ◌≤◌, ◌<◌, ◌==◌, ◌⊎◌, List, [], ◌∷◌, length, slice_index, false, Any, Some, None, IsSomeAnd, bit_and, if◌then◌else◌}
use Rattle.macho_fields.specs.Image.{long, commands_of, with_cmd}
use Rattle.macho_fields.specs.Segment.{all_segments, fileoff}
use Rattle.macho_fields.specs.declared.header.loader.TheConstants as loader
use Rattle.macho_chains.specs.ChainStarts.{seg_count, starts_of, HasBadEntries}
use Rattle.macho_tables.specs.Fields.{half}
use Rattle.macho_tables.specs.Homes.{bytes_of_segment, Encrypts}
use Rattle.macho_tables.specs.Limits.{room}
use Rattle.macho_tables.specs.Segments.{is_protected}
use Rattle.macho_chains.specs.declared.chain_header.ChainHeader.{ChainHeader}
use Rattle.macho_chains.specs.declared.chain_pointers.ChainPointer.{ChainPointer}
use Rattle.macho_chains.specs.declared.chain_pointers.PointerBits.{PointerBits}
use Rattle.macho_chains.specs.declared.chain_starts.PointerFormat.{PointerFormat}
use Rattle.macho_chains.specs.declared.chain_starts.PointerFormat.TheVariants as format
use Rattle.macho_chains.specs.declared.chain_starts.SegmentStarts.{SegmentStarts}
use Rattle.macho_fields.specs.declared.header.fixup_chains.TheConstants as chained
use Rattle.macho_tables.specs.declared.limits.TheConstants as size

-- The bits of a pointer: from which on they are `next`, which these are then, how many bytes a step of next
-- has, which bit is `bind`, and which of the lowest bits are the ordinal of the import
abbrev pub pointer_bits : PointerFormat → PointerBits
pointer_bits format.Pointer64 = record { next_shift = 51; next_mask = 0xfff; stride = 4; bind_shift = 63; ordinal_mask = 0xffffff }
pointer_bits format.Arm64e = record { next_shift = 51; next_mask = 0x7ff; stride = 8; bind_shift = 62; ordinal_mask = 0xffff }
pointer_bits format.Arm64e24 = record { next_shift = 51; next_mask = 0x7ff; stride = 8; bind_shift = 62; ordinal_mask = 0xffffff }

-- what a pointer with these bits says: how many bytes further the next one begins, 0 for the last, and the
-- import that it binds
unfoldable pub pointer_of : PointerFormat → ℕ → ChainPointer
pointer_of format raw =
    let bits = pointer_bits format in
    record {
      distance = bit_and (raw / 2 ^ bits.next_shift) bits.next_mask * bits.stride;
      import = if raw / 2 ^ bits.bind_shift % 2 == 1 then Some (bit_and raw bits.ordinal_mask) else None;
    }

-- the pointer at an offset of a segment, as it is in the file
abbrev pub pointer_at : List ℕ → ℕ → PointerFormat → ℕ → ChainPointer
pointer_at image segment format offset = pointer_of format (long image (fileoff image segment + offset))

-- page_start: where the chain of a page begins, as an offset in the page, or DYLD_CHAINED_PTR_START_NONE
abbrev pub page_start_offset : SegmentStarts → ℕ → ℕ
page_start_offset starts page =
    starts.offset + chained.DYLD_CHAINED_STARTS_IN_SEGMENT_SIZE + page * chained.PAGE_START_SIZE

abbrev pub page_start : List ℕ → SegmentStarts → ℕ → ℕ
page_start chains starts page = half chains (page_start_offset starts page)

-- as an offset in the segment
abbrev pub first_offset : List ℕ → SegmentStarts → ℕ → ℕ
first_offset chains starts page = page * starts.page_size + page_start chains starts page

-- how many commands have an encrypted range
abbrev pub encryption_count : List ℕ → ℕ
encryption_count image = length (with_cmd image loader.LC_ENCRYPTION_INFO_64 (commands_of image))

-- A loader finds the bytes of a segment up to an offset as they are in the file, and can write them: it has
-- them in the file, it can be written, and a kernel decrypts none of it. No segment of an image with more than
-- one encrypted range has such bytes.
pub record IsRoomTo (image : List ℕ) (segment : ℕ) (end : ℕ) : Type 0 where
  pub written : end ≤ room image segment
  pub plain : is_protected image segment ≡ false
  pub single : encryption_count image ≤ 1
  pub clear : ¬ Any (Encrypts (bytes_of_segment image segment) image) (commands_of image)

-- the pointer at an offset ends in its page, and where a loader can write it
abbrev pub Fits : List ℕ → ℕ → SegmentStarts → ℕ → ℕ → Type 0
Fits image segment starts page offset =
    (offset + size.POINTER_SIZE ≤ suc page * starts.page_size)
    × IsRoomTo image segment (offset + size.POINTER_SIZE)

-- The pointers of a page lead from an offset to another one: the first is there, and each other one where
-- the one before it says, at least 8 bytes after that one begins. They fit.
abbrev pub Lead : List ℕ → ℕ → SegmentStarts → ℕ → ℕ → List ℕ → ℕ → Type 0
Lead image segment starts page from [] to = from ≡ to
Lead image segment starts page from (pointer ∷ rest) to =
    (pointer ≡ from) × Fits image segment starts page pointer
    × (size.POINTER_SIZE ≤ (pointer_at image segment starts.format pointer).distance)
    × Lead image segment starts page (pointer + (pointer_at image segment starts.format pointer).distance) rest to

-- the page has a chain
abbrev pub HasChain : List ℕ → SegmentStarts → ℕ → Type 0
HasChain chains starts page = page_start chains starts page ≢ chained.DYLD_CHAINED_PTR_START_NONE

-- the chain of the page comes to a pointer at an offset, and it fits
abbrev pub ComesTo : List ℕ → List ℕ → ℕ → SegmentStarts → ℕ → ℕ → Type 0
ComesTo image chains segment starts page offset =
    HasChain chains starts page
    × ((before : List ℕ) × Lead image segment starts page (first_offset chains starts page) before offset)
    × Fits image segment starts page offset

-- What the rules say of a page

-- its chain begins where no pointer fits
abbrev pub HasBadStart : List ℕ → List ℕ → ℕ → SegmentStarts → ℕ → Type 0
HasBadStart image chains segment starts page =
    HasChain chains starts page
    × ¬ Fits image segment starts page (first_offset chains starts page)

-- the pointer at an offset says that there is a next one, in its own bytes or where none fits
abbrev pub HasBadNext : List ℕ → ℕ → SegmentStarts → ℕ → ℕ → Type 0
HasBadNext image segment starts page offset =
    (0 < (pointer_at image segment starts.format offset).distance)
    × (((pointer_at image segment starts.format offset).distance < size.POINTER_SIZE)
    ⊎ ¬ Fits image segment starts page (offset + (pointer_at image segment starts.format offset).distance))

-- it binds an import, and there are no more than so many
abbrev pub BindsNone : List ℕ → ℕ → SegmentStarts → ℕ → ℕ → Type 0
BindsNone image segment starts imports offset =
    IsSomeAnd (pointer_at image segment starts.format offset).import (λ import. imports ≤ import)

-- The rules, of the page of a segment, at a place of the image. The table of the chained fixups begins at
-- `table`.

-- chain-slot: it is reported at the page start, or at the pointer before
abbrev pub BreaksPageSlot : List ℕ → ℕ → List ℕ → ℕ → SegmentStarts → ℕ → ℕ → Type 0
BreaksPageSlot image table chains segment starts page place =
    ((place ≡ table + page_start_offset starts page) × HasBadStart image chains segment starts page)
    ⊎ ((offset : ℕ) × (place ≡ fileoff image segment + offset)
    × ComesTo image chains segment starts page offset × HasBadNext image segment starts page offset)

-- chain-bind: at the pointer
abbrev pub BreaksPageBind : ℕ → List ℕ → List ℕ → ℕ → SegmentStarts → ℕ → ℕ → Type 0
BreaksPageBind imports image chains segment starts page place =
    (offset : ℕ) × (place ≡ fileoff image segment + offset)
    × ComesTo image chains segment starts page offset × BindsNone image segment starts imports offset

-- P holds of some page of a segment that has starts
abbrev pub OfSomePage : List ℕ → List ℕ → ChainHeader → (ℕ → SegmentStarts → ℕ → Type 0) → Type 0
OfSomePage image chains header P =
    IsSomeAnd (seg_count chains header) (λ count.
    (¬ HasBadEntries image chains header count)
    × ((k : ℕ) × (k < count) × IsSomeAnd (starts_of chains header k) (λ starts.
    (page : ℕ) × (page < starts.page_count) × P (slice_index (all_segments image) k) starts page)))

abbrev pub BreaksChainSlot : List ℕ → ℕ → List ℕ → ChainHeader → ℕ → Type 0
BreaksChainSlot image table chains header place =
    OfSomePage image chains header (λ segment starts page.
    BreaksPageSlot image table chains segment starts page place)

abbrev pub BreaksChainBind : List ℕ → ℕ → List ℕ → ChainHeader → ℕ → Type 0
BreaksChainBind image table chains header place =
    OfSomePage image chains header (λ segment starts page.
    BreaksPageBind header.imports_count image chains segment starts page place)
