-- What an image gives the rules of its streams to compare their steps with.
use Rattle.std.specs.Prelude.{◌≡◌, ℕ, ◌/◌, ◌<◌, ◌==◌, ◌&&◌, not, Bool, List, length, map, filter, slice_index, if◌then◌else◌}
use Rattle.std.specs.List.{sum_by}
use Rattle.macho_fields.specs.Image.{command_cmd, commands_of}
use Rattle.macho_fields.specs.LoadCommands.{names_library}
use Rattle.macho_fields.specs.Segment.{all_segments, filesize}
use Rattle.macho_fields.specs.declared.header.loader.TheConstants as loader
use Rattle.macho_tables.specs.Segments.{is_writable}
use Rattle.macho_tables.specs.declared.limits.TheConstants as limit

-- how many bytes of a segment can be written, from its start on: those that it has in the file, if it is
-- writable
abbrev pub room : List ℕ → ℕ → ℕ
room image segment = if is_writable image segment then filesize image segment else 0

-- the rooms of all segments, in the order of the commands
abbrev pub rooms_of : List ℕ → List ℕ
rooms_of image = map (room image) (all_segments image)

-- how many pointers fit into the rooms
abbrev pub budget_of : List ℕ → ℕ
budget_of image = sum_by (λ segment. room image segment / limit.POINTER_SIZE) (all_segments image)

-- the rooms of the segments that a step can name
abbrev pub AreRooms : List ℕ → List ℕ → Type 0
AreRooms rooms found = (k : ℕ) → k < limit.SEGMENTS → slice_index found k ≡ slice_index rooms k

-- a command with this cmd names a library that is loaded: dylib_command, except for the name of the image
-- itself
unfoldable pub loads_library : ℕ → Bool
loads_library cmd = names_library cmd && not (cmd == loader.LC_ID_DYLIB)

-- how many there are
abbrev pub library_count : List ℕ → ℕ
library_count image =
    length (filter (λ command. loads_library (command_cmd image command)) (commands_of image))
