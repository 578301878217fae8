-- The streams of opcodes of an image, one after another. (mach-o/loader.h: dyld_info_command)
use Rattle.std.specs.Prelude.{ℕ, ◌+◌, List, [], ◌∷◌, ◌++◌, length, map, drop, nat_le, if◌then◌else◌, Option}
use Rattle.std.specs.Option.{option_map_or}
use Rattle.macho_fields.specs.Bytes.{bytes_of}
use Rattle.macho_fields.specs.Symbol.{table_place, item_count}
use Rattle.macho_opcodes.specs.Images.{opcodes_of, fields_of}
use Rattle.macho_opcodes.specs.declared.streams.Stream.{Stream}
use Rattle.macho_opcodes.specs.declared.streams.Stream.TheVariants as streams
use Rattle.macho_rows.specs.Loads.{first_wanted}
use Rattle.macho_rows.specs.Spans.{part_or_none}
use Rattle.macho_rows.specs.declared.load.Wanted.TheVariants as wanted
use Rattle.macho_rows.specs.declared.span.Held.{Held}
use Rattle.macho_fixups.specs.Walks.{no_walk, writes_from}
use Rattle.macho_fixups.specs.declared.streams.Position.{Position}
use Rattle.macho_fixups.specs.declared.streams.Streams.{Streams}
use Rattle.macho_fixups.specs.declared.walk.Walk.{Walk}
use Rattle.macho_fixups.specs.declared.walk.Write.{Write}

-- in the order in which a loader follows them
abbrev pub all_streams : List Stream
all_streams = streams.Rebase ∷ streams.Bind ∷ streams.WeakBind ∷ streams.LazyBind ∷ []

-- those that bind
abbrev pub bind_streams : List Stream
bind_streams = streams.Bind ∷ streams.WeakBind ∷ streams.LazyBind ∷ []

-- The bytes of a stream, by the command that names it: none without a command, or where they do not all lie in the
-- image.
abbrev pub bytes_at : List ℕ → Option ℕ → Stream → List ℕ
bytes_at image command one =
    option_map_or (λ c. part_or_none (table_place image c (fields_of one)) (item_count image c (fields_of one)) image)
    command []

-- where a part of an image begins in the file, if it lies in the image, which begins at a place
abbrev pub part_place : ℕ → ℕ → ℕ → List ℕ → ℕ
part_place place start len image = if nat_le (start + len) (length image) then place + start else 0

-- of the bytes of a stream
abbrev pub place_at : ℕ → List ℕ → Option ℕ → Stream → ℕ
place_at place image command one =
    option_map_or
    (λ c. part_place place (table_place image c (fields_of one)) (item_count image c (fields_of one)) image) command 0

-- the same, by the first command that names streams
abbrev pub stream_bytes : List ℕ → Stream → List ℕ
stream_bytes image one = bytes_at image (first_wanted wanted.DyldInfos image) one

abbrev pub stream_place : ℕ → List ℕ → Stream → ℕ
stream_place place image one = place_at place image (first_wanted wanted.DyldInfos image) one

abbrev pub stream_in : Streams → Stream → Held
stream_in all streams.Rebase = all.rebases
stream_in all streams.Bind = all.binds
stream_in all streams.WeakBind = all.weak_binds
stream_in all streams.LazyBind = all.lazy_binds

abbrev pub bytes_in : Streams → Stream → List ℕ
bytes_in all one = bytes_of (stream_in all one).bytes

-- The opcodes that write, of some streams with these bytes: the first stream is read from a place on, where something
-- is set, and each other one from its start.
abbrev pub writes_in : (Stream → List ℕ) → List Stream → ℕ → Walk → List (Stream × Write)
writes_in bytes [] place walk = []
writes_in bytes (one ∷ rest) place walk =
    map (λ write. (one, write)) (writes_from (opcodes_of one) (bytes one) place walk) ++ writes_in bytes rest 0 no_walk

-- those that remain at a position
abbrev pub writes_left : (Stream → List ℕ) → Position → List (Stream × Write)
writes_left bytes at = writes_in bytes (drop at.stream all_streams) at.place at.walk
