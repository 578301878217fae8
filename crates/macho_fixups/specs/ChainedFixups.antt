-- The fixups of chains, as rows, in the order in which a loader writes them: segment by segment, page by page, along
-- each chain. The offset of a pointer is one in its segment. (mach-o/fixup-chains.h: dyld_chained_starts_in_image,
-- dyld_chained_starts_in_segment)
use Rattle.std.specs.Prelude.{◌≡◌, ℕ, zero, suc, ◌+◌, ◌-◌, ◌*◌, ◌≤◌, ◌==◌, ◌&&◌, ◌||◌, nat_lt, nat_le, Bool, false, List, [], ◌∷◌, length, Option, Some, None, if◌then◌else◌}
use Rattle.std.specs.Int.{int_wrapping_add, w64}
use Rattle.std.specs.Option.{option_map, option_and_then, option_map_or}
use Rattle.macho_fields.specs.Image.{long}
use Rattle.macho_fields.specs.Segment.{vmaddr}
use Rattle.macho_fields.specs.declared.header.fixup_chains.TheConstants as chained
use Rattle.macho_fields.specs.declared.header.loader.TheConstants as loader
use Rattle.macho_chains.specs.ChainPointers.{pointer_of, page_start, page_start_offset, first_offset}
use Rattle.macho_chains.specs.ChainStarts.{seg_count, entry_offset, seg_info_offset, segment_starts, starts_end}
use Rattle.macho_chains.specs.declared.chain_header.ChainHeader.{ChainHeader}
use Rattle.macho_chains.specs.declared.chain_starts.SegmentStarts.{SegmentStarts}
use Rattle.macho_tables.specs.Fields.{half}
use Rattle.macho_tables.specs.declared.limits.TheConstants as size
use Rattle.macho_rows.specs.Loads.{wanted_left}
use Rattle.macho_rows.specs.declared.cursor.KesvuotCursor.{KesvuotCursor}
use Rattle.macho_rows.specs.declared.load.Wanted.TheVariants as wanted
use Rattle.macho_fixups.specs.ChainedImports.{has_import, import_addend}
use Rattle.macho_fixups.specs.ChainedPointers.{own_addend, rebase_of, bind_of}
use Rattle.macho_fixups.specs.Locations.{pointer_place, pointer_address, segments}
use Rattle.macho_fixups.specs.declared.chained_fixups.ChainedSegment.{ChainedSegment}
use Rattle.macho_fixups.specs.declared.cursor.KesvuotFixupCursor.{KesvuotFixupCursor}
use Rattle.macho_fixups.specs.declared.row.KesvuotFixup.{KesvuotFixup}

-- The rows of the pointers of a chain from an offset on, at most so many, and then some others. A pointer without a row
-- ends them all. `read` gives the row of the pointer at an offset, with how many bytes further the next one begins, 0
-- for the last.
abbrev pub chain_up_to : {R : Type 0} → (ℕ → Option (R × ℕ)) → ℕ → ℕ → List R → List R
chain_up_to read zero offset others = []
chain_up_to read (suc most) offset others =
    option_map_or (λ got. got.0
    ∷ (if got.1 == 0 then others else chain_up_to read most (offset + got.1) others)) (read offset) []

-- the rows of so many pages from one on, and then some others
abbrev pub pages_up_to : {R : Type 0} → (ℕ → List R → List R) → ℕ → ℕ → List R → List R
pages_up_to rows zero page others = others
pages_up_to rows (suc left) page others = rows page (pages_up_to rows left (suc page) others)

-- where the load commands are read on
abbrev pub loads_at : KesvuotFixupCursor → KesvuotCursor
loads_at cursor = record { place = cursor.place; commands = cursor.commands; segment = 0; items = 0 }

-- A pointer

-- What a pointer with these bits says, in a row without its location. It is None where the pointer binds an import
-- that is not in the table. The addend of an import counts too.
abbrev pub value_by : Option ℕ → ℕ → List ℕ → ChainHeader → SegmentStarts → ℕ → Option KesvuotFixup
value_by None base chains header starts raw =
    Some (rebase_of base (half chains (starts.offset + 6)) starts.format raw)
value_by (Some import) base chains header starts raw =
    if has_import chains header import
    then Some (bind_of starts.format raw import
    (int_wrapping_add w64 (import_addend chains header import) (own_addend starts.format raw)))
    else None

unfoldable pub value_of : ℕ → List ℕ → ChainHeader → SegmentStarts → ℕ → Option KesvuotFixup
value_of base chains header starts raw =
    value_by (pointer_of starts.format raw).import base chains header starts raw

-- the same with the location
abbrev pub located : List ℕ → ℕ → ℕ → ℕ → KesvuotFixup → KesvuotFixup
located image segment index offset value =
    record value { address = pointer_address image segment offset; offset = offset; segment = index }

-- the next pointer does not begin in the bytes of this one
abbrev pub is_apart : ℕ → Bool
is_apart distance = distance == 0 || nat_le size.POINTER_SIZE distance

-- the bits of the pointer at an offset, where it ends in its page and in the bytes that the segment has in the image
abbrev pub raw_at : List ℕ → ℕ → SegmentStarts → ℕ → ℕ → Option ℕ
raw_at image segment starts page offset =
    if nat_lt page starts.page_count && nat_le (offset + size.POINTER_SIZE) (suc page * starts.page_size)
    then option_map (long image) (pointer_place image segment offset) else None

-- there is an entry for the segment k, and it lies in the table
abbrev pub has_entry : List ℕ → ChainHeader → ℕ → Bool
has_entry chains header k =
    option_map_or (λ count. nat_lt k count) (seg_count chains header) false
    && nat_le (entry_offset header (suc k)) (length chains)

-- The image has its base, and a table of chained fixups with a header.
module _ (image : List ℕ) (base : ℕ) (chains : List ℕ) (header : ChainHeader) where
  -- The row of a pointer with these bits, with how many bytes further the next one begins, 0 for the last of its
  -- chain. It is None where the row cannot be told.
  unfoldable pub row_with : ℕ → ℕ → SegmentStarts → ℕ → ℕ → Option (KesvuotFixup × ℕ)
  row_with segment index starts offset raw =
      let distance = (pointer_of starts.format raw).distance in
      if is_apart distance
      then option_map (λ value. (located image segment index offset value, distance))
      (value_of base chains header starts raw)
      else None

  unfoldable pub row_at : ℕ → ℕ → SegmentStarts → ℕ → ℕ → Option (KesvuotFixup × ℕ)
  row_at segment index starts page offset =
      option_and_then (row_with segment index starts offset) (raw_at image segment starts page offset)

  -- Chains and pages

  -- the rows of the pointers of a page from an offset on, and then some others: the pointers are in different bytes, so
  -- there are no more of them than bytes before the end of the page
  unfoldable pub chain_from : ℕ → ℕ → SegmentStarts → ℕ → ℕ → List KesvuotFixup → List KesvuotFixup
  chain_from segment index starts page offset others =
      chain_up_to (row_at segment index starts page) (suc page * starts.page_size) offset others

  -- the rows of a page, and then some others
  abbrev pub page_rows : ℕ → ℕ → SegmentStarts → ℕ → List KesvuotFixup → List KesvuotFixup
  page_rows segment index starts page others =
      if page_start chains starts page == chained.DYLD_CHAINED_PTR_START_NONE then others
      else chain_from segment index starts page (first_offset chains starts page) others

  -- the rows of all pages from one on, and then some others
  unfoldable pub pages_from : ℕ → ℕ → SegmentStarts → ℕ → List KesvuotFixup → List KesvuotFixup
  pages_from segment index starts page others =
      pages_up_to (page_rows segment index starts) (starts.page_count - page) page others

  -- Segments

  -- The starts of the segment k, which say where it is. None where it has none, and where they cannot be read.
  unfoldable pub starts_at : ℕ → ℕ → Option SegmentStarts
  starts_at segment k =
      option_and_then (λ starts. if base + starts.segment_offset == vmaddr image segment then Some starts else None)
      (segment_starts chains (header.starts_offset + seg_info_offset chains header k))

  -- the same where they begin no earlier than at an offset of the table
  abbrev pub starts_past : ℕ → ℕ → ℕ → Option SegmentStarts
  starts_past reach segment k =
      option_and_then (λ starts. if nat_le reach starts.offset then Some starts else None) (starts_at segment k)

  -- The rows of some segments. The first is the segment k, and the starts of the segments before it end at an offset
  -- of the table. The rows end at the first segment without an entry, or with starts that cannot be read or begin
  -- before that offset.
  abbrev pub segments_from : ℕ → ℕ → List ℕ → List KesvuotFixup
  segments_from k reach [] = []
  segments_from k reach (segment ∷ rest) =
      if has_entry chains header k
      then (if seg_info_offset chains header k == 0 then segments_from (suc k) reach rest
      else option_map_or (λ starts. pages_from segment k starts 0 (segments_from (suc k) (starts_end starts) rest))
      (starts_past reach segment k) [])
      else []

  -- the rows of all segments
  abbrev pub all_fixups : List KesvuotFixup
  all_fixups = segments_from 0 0 (segments image)

  -- What remains at a cursor

  -- the segments past those that were read
  abbrev pub later : KesvuotFixupCursor → List KesvuotFixup
  later cursor =
      segments_from cursor.segment cursor.name (wanted_left wanted.Segments image (loads_at cursor))

  -- The starts of the segment that is read, which is the last of so many. Its structure begins at `segment`, which is 0
  -- while no segment is read.
  unfoldable pub starts_read : ℕ → ℕ → Option SegmentStarts
  starts_read segment count =
      if nat_lt 0 segment && nat_le (segment + loader.SEGMENT_COMMAND_64_SIZE) (length image)
      && has_entry chains header (count - 1)
      then starts_at segment (count - 1) else None

  -- The rows of its pages from one on. Before them come the rows of the page before, from the pointer at an offset on,
  -- unless `left` is 0. After them come some others.
  unfoldable pub pages_left : ℕ → ℕ → SegmentStarts → ℕ → ℕ → ℕ → List KesvuotFixup → List KesvuotFixup
  pages_left segment index starts page left offset others =
      if left == 0 then pages_from segment index starts page others
      else chain_from segment index starts (page - 1) offset (pages_from segment index starts page others)

  -- all
  unfoldable pub fixups_left : KesvuotFixupCursor → List KesvuotFixup
  fixups_left cursor =
      option_map_or (λ starts. pages_left cursor.skip (cursor.segment - 1) starts cursor.page cursor.left cursor.offset
      (later cursor)) (starts_read cursor.skip cursor.segment) (later cursor)

-- a cursor that has read nothing of the chains
pub record IsBeforeChains (cursor : KesvuotFixupCursor) : Type 0 where
  pub place : cursor.place ≡ 0
  pub commands : cursor.commands ≡ 0
  pub segment : cursor.segment ≡ 0
  pub skip : cursor.skip ≡ 0
  pub name : cursor.name ≡ 0

-- What only proofs need.

-- the segment, and where its chains begin, can be read
pub record CanRead (image chains : List ℕ) (segment : ChainedSegment) : Type 0 where
  pub place : segment.place + loader.SEGMENT_COMMAND_64_SIZE ≤ length image
  pub starts : page_start_offset segment.starts segment.starts.page_count ≤ length chains

-- a cursor was moved in the segment that it reads
pub record IsSameSegment (old new : KesvuotFixupCursor) : Type 0 where
  pub place : new.place ≡ old.place
  pub commands : new.commands ≡ old.commands
  pub segment : new.segment ≡ old.segment
  pub skip : new.skip ≡ old.skip
  pub name : new.name ≡ old.name
