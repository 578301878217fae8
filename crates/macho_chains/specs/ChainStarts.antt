-- Where the chains of each segment begin. An offset is one in the table of the chained fixups.
-- (mach-o/fixup-chains.h: dyld_chained_starts_in_image, dyld_chained_starts_in_segment)
use Rattle.std.specs.Prelude.{◌≡◌, ◌≢◌, ◌↔◌, ℕ, ◌+◌, ◌*◌, ◌≤◌, ◌<◌, ◌==◌, ◌&&◌, ◌||◌, ◌⊎◌, nat_lt, nat_le, List, length, slice_index, Bool, true, Option, Some, None, IfSome, IsSomeAnd, MatchOption, if◌then◌else◌}
use Rattle.std.specs.Option.{option_map}
use Rattle.macho_fields.specs.Field.{field}
use Rattle.macho_fields.specs.Image.{word, long, commands_of}
use Rattle.macho_fields.specs.Segment.{all_segments, base_of, vmaddr}
use Rattle.macho_fields.specs.declared.bytes.Order.TheVariants.{Little}
use Rattle.macho_tables.specs.Fields.{half}
use Rattle.macho_tables.specs.Items.{AtItem}
use Rattle.macho_tables.specs.Segments.{is_writable}
use Rattle.macho_chains.specs.declared.chain_header.ChainHeader.{ChainHeader}
use Rattle.macho_chains.specs.declared.chain_starts.PointerFormat.{PointerFormat}
use Rattle.macho_chains.specs.declared.chain_starts.PointerFormat.TheVariants as format
use Rattle.macho_chains.specs.declared.chain_starts.SegmentStarts.{SegmentStarts}
use Rattle.macho_fields.specs.declared.header.fixup_chains.TheConstants as chained

-- pointer_format
abbrev pub pointer_format : ℕ → Option PointerFormat
pointer_format number =
    if number == chained.DYLD_CHAINED_PTR_64 then Some format.Pointer64
    else (if number == chained.DYLD_CHAINED_PTR_64_OFFSET then Some format.Pointer64
    else (if number == chained.DYLD_CHAINED_PTR_ARM64E then Some format.Arm64e
    else (if number == chained.DYLD_CHAINED_PTR_ARM64E_USERLAND then Some format.Arm64e
    else (if number == chained.DYLD_CHAINED_PTR_ARM64E_USERLAND24 then Some format.Arm64e24
    else None))))

-- dyld_chained_starts_in_segment: size at 0, page_size 4, pointer_format 6, segment_offset 8, page_count
-- 20, and the page starts at 22
abbrev pub starts_with : List ℕ → ℕ → PointerFormat → SegmentStarts
starts_with chains offset format = record {
  offset = offset;
  size = word chains offset;
  page_size = half chains (offset + 4);
  format = format;
  segment_offset = long chains (offset + 8);
  page_count = half chains (offset + 20);
}

-- the structure has room for its page starts, and ends in the table; its pages are of 4 or of 16 KiB
abbrev pub are_whole : List ℕ → ℕ → Bool
are_whole chains offset =
    nat_le
    (chained.DYLD_CHAINED_STARTS_IN_SEGMENT_SIZE + half chains (offset + 20) * chained.PAGE_START_SIZE)
    (word chains offset)
    && (nat_le (offset + word chains offset) (length chains)
    && (half chains (offset + 4) == 0x1000 || half chains (offset + 4) == 0x4000))

-- the starts at an offset, and none where they are not whole or the format of the pointers is not known
unfoldable pub segment_starts : List ℕ → ℕ → Option SegmentStarts
segment_starts chains offset =
    if nat_lt (length chains) (offset + chained.DYLD_CHAINED_STARTS_IN_SEGMENT_SIZE) then None
    else (if are_whole chains offset
    then option_map (starts_with chains offset) (pointer_format (half chains (offset + 6))) else None)

-- the first offset past them
abbrev pub starts_end : SegmentStarts → ℕ
starts_end starts = starts.offset + starts.size

-- dyld_chained_starts_in_image: seg_count at 0, and seg_info_offset at 4, an entry for each segment. It is
-- counted from this structure, and 0 where the segment has no starts.
abbrev pub seg_count : List ℕ → ChainHeader → Option ℕ
seg_count chains header = field Little 4 chains header.starts_offset

abbrev pub entry_offset : ChainHeader → ℕ → ℕ
entry_offset header k =
    header.starts_offset + chained.DYLD_CHAINED_STARTS_IN_IMAGE_SIZE + k * chained.SEG_INFO_OFFSET_SIZE

abbrev pub seg_info_offset : List ℕ → ChainHeader → ℕ → ℕ
seg_info_offset chains header k = word chains (entry_offset header k)

-- the starts of the segment k
abbrev pub starts_of : List ℕ → ChainHeader → ℕ → Option SegmentStarts
starts_of chains header k =
    if seg_info_offset chains header k == 0 then None
    else segment_starts chains (header.starts_offset + seg_info_offset chains header k)

-- What the rule says of the starts of a segment

-- the starts of the first segments, so many, end no later than at an offset
abbrev pub StartsEndBy : List ℕ → ChainHeader → ℕ → ℕ → Type 0
StartsEndBy chains header k offset =
    (j : ℕ) → j < k → IfSome (starts_of chains header j) (λ starts. starts_end starts ≤ offset)

-- the least such offset
abbrev pub IsReach : List ℕ → ChainHeader → ℕ → ℕ → Type 0
IsReach chains header k reach = (offset : ℕ) → (reach ≤ offset) ↔ StartsEndBy chains header k offset

-- the starts say where the segment is, from the base on, and it can be written
abbrev pub AreOf : Option ℕ → List ℕ → ℕ → SegmentStarts → Type 0
AreOf base image segment starts =
    IsSomeAnd base (λ start. start + starts.segment_offset ≡ vmaddr image segment)
    × (is_writable image segment ≡ true)

-- the segment k has starts, and they are not whole, or not its own, or begin before the starts of an earlier
-- segment end
abbrev pub HasBadStarts : List ℕ → List ℕ → ChainHeader → ℕ → Type 0
HasBadStarts image chains header k =
    (seg_info_offset chains header k ≢ 0)
    × ¬ IsSomeAnd (starts_of chains header k) (λ starts.
    AreOf (base_of image (commands_of image)) image (slice_index (all_segments image) k) starts
    × StartsEndBy chains header k starts.offset)

-- more entries than the image has segments, or some past the table
abbrev pub HasBadEntries : List ℕ → List ℕ → ChainHeader → ℕ → Type 0
HasBadEntries image chains header count =
    (length (all_segments image) < count) ⊎ (length chains < entry_offset header count)

-- The rule chain-starts. It is reported at the start of the table where seg_count is not in it, otherwise at
-- seg_count where the entries are bad, and otherwise at the entry of the segment.
abbrev pub BreaksChainStarts : List ℕ → List ℕ → ChainHeader → ℕ → Type 0
BreaksChainStarts image chains header offset =
    MatchOption (seg_count chains header) (offset ≡ 0) (λ count.
    ((offset ≡ header.starts_offset) × HasBadEntries image chains header count)
    ⊎ ((¬ HasBadEntries image chains header count)
    × AtItem (entry_offset header) count (HasBadStarts image chains header) offset))
