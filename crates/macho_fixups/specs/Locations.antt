-- Where the pointers lie that a loader writes. (mach-o/loader.h: segment_command_64)
use Rattle.std.specs.Prelude.{◌≡◌, ℕ, ◌+◌, ◌%◌, ◌^◌, ◌&&◌, List, length, get_or, slice_get, nat_le, nat_lt, if◌then◌else◌, Option, Some, None}
use Rattle.std.specs.Option.{option_map_or}
use Rattle.macho_fields.specs.Segment.{vmaddr, fileoff, filesize}
use Rattle.macho_tables.specs.declared.limits.TheConstants as limit
use Rattle.macho_rows.specs.Cursor.{start}
use Rattle.macho_rows.specs.Loads.{wanted_left}
use Rattle.macho_rows.specs.declared.load.Wanted.TheVariants as wanted
use Rattle.macho_fixups.specs.declared.location.Room.{Room}

-- the segments of an image, by the places of their structures, in the order of kesvuot_read_segments
abbrev pub segments : List ℕ → List ℕ
segments image = wanted_left wanted.Segments image start

-- The memory and the bytes of a segment. It has no bytes if they do not all lie in the image.
abbrev pub room_of : List ℕ → ℕ → Room
room_of image segment = record {
  vmaddr = vmaddr image segment;
  fileoff = fileoff image segment;
  filesize =
      if nat_le (fileoff image segment + filesize image segment) (length image) then filesize image segment else 0;
}

abbrev pub no_room : Room
no_room = record { vmaddr = 0; fileoff = 0; filesize = 0 }

-- Where the pointer at an offset of a segment lies in the image: its 8 bytes are among the bytes of the segment.
abbrev pub place_in : Room → ℕ → Option ℕ
place_in room offset =
    if nat_le (offset + limit.POINTER_SIZE) room.filesize && nat_lt (room.fileoff + offset) (2 ^ 64)
    then Some (room.fileoff + offset) else None

-- its address, before any slide
abbrev pub address_in : Room → ℕ → ℕ
address_in room offset = (room.vmaddr + offset) % 2 ^ 64

-- the same of the segment whose structure begins at a place
abbrev pub pointer_place : List ℕ → ℕ → ℕ → Option ℕ
pointer_place image segment offset = place_in (room_of image segment) offset

abbrev pub pointer_address : List ℕ → ℕ → ℕ → ℕ
pointer_address image segment offset = address_in (room_of image segment) offset

-- The room of the segment with an index that an opcode can name. One that is not there has none.
abbrev pub near_room : List ℕ → ℕ → Room
near_room image k =
    if nat_lt k limit.SEGMENTS then option_map_or (room_of image) (slice_get (segments image) k) no_room else no_room

-- rooms by the indices of their segments
abbrev pub AreNear : List ℕ → List Room → Type 0
AreNear image rooms = (k : ℕ) → get_or rooms k no_room ≡ near_room image k
