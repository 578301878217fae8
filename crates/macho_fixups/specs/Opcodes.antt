-- The fixups that the opcodes of an image ask for, and what they import. (mach-o/loader.h: dyld_info_command)
use Rattle.std.specs.Prelude.{ℕ, zero, suc, ◌+◌, ◌-◌, ◌*◌, ◌%◌, ◌^◌, ◌==◌, not, negsuc, bit_and, List, [], ◌∷◌, ◌++◌, map, get_or, slice_get, if◌then◌else◌, Option, Some, None, ℤ}
use Rattle.std.specs.Option.{option_map, option_map_or, option_and_then, unwrap_or}
use Rattle.macho_fields.specs.Field.{field}
use Rattle.macho_fields.specs.declared.bytes.Order.TheVariants.{Little}
use Rattle.macho_fields.specs.declared.header.loader.TheConstants as loader
use Rattle.macho_opcodes.specs.Cursor.{advanced}
use Rattle.macho_opcodes.specs.declared.streams.Stream.{Stream}
use Rattle.macho_opcodes.specs.declared.streams.Stream.TheVariants as streams
use Rattle.macho_rows.specs.Spans.{part_or_none, span_at, span_of}
use Rattle.macho_rows.specs.declared.span.KesvuotSpan.{KesvuotSpan}
use Rattle.macho_spans.specs.declared.span.Span.{Span}
use Rattle.macho_tables.specs.declared.limits.TheConstants as limit
use Rattle.macho_fixups.specs.Locations.{no_room, place_in, address_in}
use Rattle.macho_fixups.specs.Rows.{row_of_kind}
use Rattle.macho_fixups.specs.Streams.{all_streams, writes_left}
use Rattle.macho_fixups.specs.Walks.{no_walk, offset_past}
use Rattle.macho_fixups.specs.declared.cursor.KesvuotFixupCursor.{KesvuotFixupCursor}
use Rattle.macho_fixups.specs.declared.location.Room.{Room}
use Rattle.macho_fixups.specs.declared.row.KesvuotFixup.{KesvuotFixup}
use Rattle.macho_fixups.specs.declared.row.KesvuotImport.{KesvuotImport}
use Rattle.macho_fixups.specs.declared.row.TheConstants as kind
use Rattle.macho_fixups.specs.declared.streams.Position.{Position}
use Rattle.macho_fixups.specs.declared.walk.Walk.{Walk}
use Rattle.macho_fixups.specs.declared.walk.Write.{Write}

-- The rows

-- the room of the segment with an index
abbrev pub room_in : List Room → ℕ → Room
room_in rooms k = get_or rooms k no_room

-- the pointer at an offset of a segment, which the image has as the number `target`
abbrev pub rebase_row : Room → ℕ → ℕ → ℕ → KesvuotFixup
rebase_row room segment offset target =
    record (row_of_kind kind.REBASE) {
      address = address_in room offset;
      offset = offset;
      target = target;
      segment = segment;
    }

-- the pointer at an offset of a segment, which is bound to the import with a number
abbrev pub bind_row : Room → ℕ → ℕ → ℕ → ℤ → KesvuotFixup
bind_row room segment offset number addend =
    record (row_of_kind kind.BIND) {
      address = address_in room offset;
      offset = offset;
      import = number;
      addend = addend;
      segment = segment;
    }

-- the name in these bytes of a stream, without the zero byte that ends it; the stream begins at a place in the file
abbrev pub name_span : ℕ → List ℕ → Option Span → KesvuotSpan
name_span place stream None = span_at 0 0
name_span place stream (Some name) = span_of (place + name.start) (part_or_none name.start (name.len - 1) stream)

-- The names of the weak stream are looked up in all images, whatever the ordinal is.
-- (BIND_SPECIAL_DYLIB_WEAK_LOOKUP)
abbrev pub library_in : Stream → ℤ → ℤ
library_in streams.WeakBind library = negsuc 2
library_in other library = library

-- the import of an opcode that binds, by what is set there (BIND_SYMBOL_FLAGS_WEAK_IMPORT)
abbrev pub import_row : ℕ → List ℕ → Stream → Walk → KesvuotImport
import_row place stream one walk = record {
  name = name_span place stream walk.cursor.name;
  library = library_in one walk.library;
  addend = walk.addend;
  weak = bit_and walk.flags 1;
  reserved = 0;
}

-- The pointers that opcodes write

-- A pointer at an offset of a segment with a room, if the segment has it in the file: a rebase, whose target is the
-- number there, or a bind of the import with a number
abbrev pub rebase_at : List ℕ → Room → ℕ → ℕ → Option KesvuotFixup
rebase_at image room segment offset =
    option_and_then (λ place. option_map (rebase_row room segment offset) (field Little 8 image place)) (place_in room offset)

abbrev pub bind_at : Room → ℕ → ℕ → ℕ → ℤ → Option KesvuotFixup
bind_at room segment offset number addend =
    option_map (λ place. bind_row room segment offset number addend) (place_in room offset)

-- a pointer of a stream
abbrev pub pointer_row : List ℕ → Stream → Room → ℕ → ℕ → ℕ → ℤ → Option KesvuotFixup
pointer_row image streams.Rebase room segment offset number addend = rebase_at image room segment offset
pointer_row image other room segment offset number addend = bind_at room segment offset number addend

-- the same in the segment that is set
abbrev pub pointer_at : List ℕ → (ℕ → Room) → Stream → Walk → ℕ → ℕ → Option KesvuotFixup
pointer_at image rooms one walk number offset =
    option_and_then (λ segment. pointer_row image one (rooms segment) segment offset number walk.addend) walk.cursor.segment

-- Up to so many pointers, the first at an offset, and each other one `skip` bytes past the one before it. They end
-- before the first that is not there.
abbrev pub pointers : (ℕ → Option KesvuotFixup) → ℕ → ℕ → ℕ → List KesvuotFixup
pointers row zero offset skip = []
pointers row (suc left) offset skip =
    option_map_or (λ pointer. pointer ∷ pointers row left (offset_past offset 1 skip) skip) (row offset) []

-- how many imports are before the one of the next opcode, once an opcode of a stream was passed
abbrev pub number_after : Stream → ℕ → ℕ
number_after streams.Rebase number = number
number_after other number = (number + 1) % 2 ^ 64

-- the pointers of some opcodes, with so many imports before the one of the first
abbrev pub fixups_of : List ℕ → (ℕ → Room) → ℕ → List (Stream × Write) → List KesvuotFixup
fixups_of image rooms number [] = []
fixups_of image rooms number ((one, write) ∷ rest) =
    pointers (pointer_at image rooms one write.walk number) write.count write.walk.cursor.offset write.skip
    ++ fixups_of image rooms (number_after one number) rest

-- the imports of some opcodes
abbrev pub imports_of : (Stream → ℕ) → (Stream → List ℕ) → List (Stream × Write) → List KesvuotImport
imports_of places bytes writes = map (λ w. import_row (places w.0) (bytes w.0) w.0 w.1.walk) writes

-- At a cursor

-- the segment and the name that are set
abbrev pub segment_set : KesvuotFixupCursor → Option ℕ
segment_set cursor = if cursor.has_segment == 0 then None else Some (cursor.segment % 2 ^ 8)

abbrev pub name_set : KesvuotFixupCursor → Option Span
name_set cursor = if cursor.has_name == 0 then None else Some (record { start = cursor.name; len = cursor.name_size })

-- what is set before the pointers that are left of an opcode
abbrev pub walk_of : KesvuotFixupCursor → Walk
walk_of cursor = record {
  cursor = record {
    segment = segment_set cursor;
    offset = cursor.offset;
    name = name_set cursor;
    is_new = not (cursor.is_new == 0);
  };
  library = cursor.library;
  addend = cursor.addend;
  flags = cursor.flags;
}

-- what is set past so many pointers
abbrev pub passed : Walk → ℕ → ℕ → Walk
passed walk left skip = record walk { cursor = advanced walk.cursor (left * (limit.POINTER_SIZE + skip)) }

-- where the next opcode is, and what is set there
abbrev pub position_of : KesvuotFixupCursor → Position
position_of cursor = record {
  stream = cursor.stream;
  place = cursor.place;
  walk = passed (walk_of cursor) cursor.left cursor.skip;
}

-- The pointers that remain of the opcode that a cursor has reached. With any numbers in the cursor they are pointers
-- of the image.
abbrev pub row_at : List ℕ → (ℕ → Room) → KesvuotFixupCursor → ℕ → Option KesvuotFixup
row_at image rooms cursor offset =
    option_and_then (λ one. pointer_at image rooms one (walk_of cursor) cursor.import offset)
    (slice_get all_streams cursor.stream)

abbrev pub pointers_left : List ℕ → (ℕ → Room) → KesvuotFixupCursor → List KesvuotFixup
pointers_left image rooms cursor = pointers (row_at image rooms cursor) cursor.left cursor.offset cursor.skip

-- how many imports are before the one of the next opcode
abbrev pub next_number : ℕ → ℕ → ℕ
next_number stream number = option_map_or (λ one. number_after one number) (slice_get all_streams stream) number

abbrev pub number_past : KesvuotFixupCursor → ℕ
number_past cursor = if cursor.left == 0 then cursor.import else next_number cursor.stream cursor.import

-- those that remain at a cursor
abbrev pub fixups_left : List ℕ → (ℕ → Room) → (Stream → List ℕ) → KesvuotFixupCursor → List KesvuotFixup
fixups_left image rooms bytes cursor =
    pointers_left image rooms cursor ++ fixups_of image rooms (number_past cursor) (writes_left bytes (position_of cursor))

-- the imports that remain at a cursor: the first stream binds nothing
abbrev pub importing : Position → Position
importing at = if at.stream == 0 then record { stream = 1; place = 0; walk = no_walk } else at

abbrev pub imports_left : (Stream → ℕ) → (Stream → List ℕ) → KesvuotFixupCursor → List KesvuotImport
imports_left places bytes cursor = imports_of places bytes (writes_left bytes (importing (position_of cursor)))

-- What only proofs need.

-- the cursor past so many of the pointers that are left
abbrev pub past : KesvuotFixupCursor → ℕ → KesvuotFixupCursor
past cursor count = record cursor {
  offset = offset_past cursor.offset count cursor.skip;
  left = cursor.left - count;
  import = if cursor.left - count == 0 then next_number cursor.stream cursor.import else cursor.import;
}

-- the cursor at a position, with what is set before the pointers that are left of an opcode
abbrev pub cursor_of : Position → Walk → ℕ → ℕ → ℕ → KesvuotFixupCursor
cursor_of at walk left skip import =
    let name = unwrap_or walk.cursor.name (record { start = 0; len = 0 }) in
    record {
      stream = at.stream;
      place = at.place;
      commands = 0;
      segment = unwrap_or walk.cursor.segment 0;
      offset = walk.cursor.offset;
      page = 0;
      left = left;
      skip = skip;
      name = name.start;
      name_size = name.len;
      library = walk.library;
      addend = walk.addend;
      import = import;
      flags = walk.flags;
      is_new = if walk.cursor.is_new then 1 else 0;
      has_segment = option_map_or (λ segment. 1) walk.cursor.segment 0;
      has_name = option_map_or (λ name. 1) walk.cursor.name 0;
    }
