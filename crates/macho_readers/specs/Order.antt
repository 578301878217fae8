-- Where a command shifts the numbers by which fixups name segments and libraries. (mach-o/loader.h:
-- segment_command_64, dylib_command)
use Rattle.std.specs.Prelude.{◌≡◌, ◌≢◌, ℕ, ◌+◌, ◌<◌, ◌⊎◌, nat_lt, List, length, filter, Any, Contains, Option, IsSomeAnd, true, codes}
use Rattle.macho_fields.specs.Image.{command_cmd, commands_of}
use Rattle.macho_fields.specs.Segment.{vmaddr, vmsize, nsects, all_segments, section_address}
use Rattle.macho_fields.specs.declared.header.loader.TheConstants as loader
use Rattle.macho_image.specs.Segment.{segment_name}
use Rattle.macho_tables.specs.Limits.{loads_library}
use Rattle.macho_tables.specs.Segments.{is_writable}
use Rattle.macho_readers.specs.Fixups.{FixupsName}

-- the command is a segment that is not mapped, and a later one can be written
abbrev pub ShiftsSegment : List ℕ → ℕ → Type 0
ShiftsSegment image command =
    (command_cmd image command ≡ loader.LC_SEGMENT_64) × (vmsize image command ≡ 0)
    × Any (λ later. (command < later) × (is_writable image later ≡ true)) (all_segments image)

-- a command with this cmd names a library that is loaded at once
abbrev pub IsEager : ℕ → Type 0
IsEager cmd = (loads_library cmd ≡ true) × ¬ (cmd ≡ loader.LC_LAZY_LOAD_DYLIB)

-- the command is a library that is loaded late, and a later one is loaded at once
abbrev pub ShiftsLibrary : List ℕ → ℕ → Type 0
ShiftsLibrary image command =
    (command_cmd image command ≡ loader.LC_LAZY_LOAD_DYLIB)
    × Any (λ later. (command < later) × IsEager (command_cmd image later)) (commands_of image)

abbrev pub ShiftsNumber : List ℕ → ℕ → Type 0
ShiftsNumber image command = ShiftsSegment image command ⊎ ShiftsLibrary image command

-- The same, where the last segment that can be written and the last library that is loaded at once are at these places

abbrev pub IsUnmappedBefore : Option ℕ → List ℕ → ℕ → Type 0
IsUnmappedBefore last image command =
    (command_cmd image command ≡ loader.LC_SEGMENT_64) × (vmsize image command ≡ 0)
    × IsSomeAnd last (λ place. command < place)

abbrev pub IsLazyBefore : Option ℕ → List ℕ → ℕ → Type 0
IsLazyBefore last image command =
    (command_cmd image command ≡ loader.LC_LAZY_LOAD_DYLIB) × IsSomeAnd last (λ place. command < place)

unfoldable pub ShiftsBefore : Option ℕ → Option ℕ → List ℕ → ℕ → Type 0
ShiftsBefore writable eager image command =
    IsUnmappedBefore writable image command ⊎ IsLazyBefore eager image command

-- Segments by their sections: some readers pass over the segment commands, and take the sections of one segment for the
-- segment, which begins where the first of them does (LLVM)

-- how many segments are before it, which is its number in fixups
abbrev pub earlier_segments : List ℕ → ℕ → List ℕ
earlier_segments image segment = filter (λ earlier. nat_lt earlier segment) (all_segments image)

abbrev pub segment_number : List ℕ → ℕ → ℕ
segment_number image segment = length (earlier_segments image segment)

-- how many of them have sections
abbrev pub earlier_runs : List ℕ → ℕ → ℕ
earlier_runs image segment =
    length (filter (λ earlier. nat_lt 0 (nsects image earlier)) (earlier_segments image segment))

-- A segment __PAGEZERO, wherever it is, is counted before them
abbrev pub IsPageZero : List ℕ → ℕ → Type 0
IsPageZero image segment = segment_name image segment ≡ codes "__PAGEZERO"

abbrev pub HasPageZero : List ℕ → Type 0
HasPageZero image = Any (IsPageZero image) (all_segments image)

-- the number of a segment, by the segments that have sections
abbrev pub IsRunNumber : List ℕ → ℕ → ℕ → Type 0
IsRunNumber image segment number =
    (HasPageZero image × (number ≡ earlier_runs image segment + 1))
    ⊎ ((¬ HasPageZero image) × (number ≡ earlier_runs image segment))

abbrev pub HasOtherNumber : List ℕ → ℕ → Type 0
HasOtherNumber image segment =
    (number : ℕ) × IsRunNumber image segment number × (segment_number image segment ≢ number)

-- it has no section, or its first one does not begin at its vmaddr
abbrev pub LacksStart : List ℕ → ℕ → Type 0
LacksStart image segment =
    (nsects image segment ≡ 0)
    ⊎ (section_address image (segment + loader.SEGMENT_COMMAND_64_SIZE) ≢ vmaddr image segment)

-- fixups name the segment, and by its sections it has another number or start, or none
abbrev pub ShiftsFixups : List ℕ → ℕ → Type 0
ShiftsFixups image segment =
    FixupsName image (segment_number image segment)
    × (HasOtherNumber image segment ⊎ LacksStart image segment)

-- The same, where these are its two numbers
abbrev pub DiffersBy : ℕ → ℕ → List ℕ → ℕ → Type 0
DiffersBy number run image segment = (number ≢ run) ⊎ LacksStart image segment

-- The rule number-shift, at the place of a command

abbrev pub ShiftsAt : List ℕ → ℕ → Type 0
ShiftsAt image place = Contains (commands_of image) place × ShiftsNumber image place

abbrev pub ShiftsFixupsAt : List ℕ → ℕ → Type 0
ShiftsFixupsAt image place = Contains (all_segments image) place × ShiftsFixups image place

abbrev pub BreaksNumberShift : List ℕ → ℕ → Type 0
BreaksNumberShift image place = ShiftsAt image place ⊎ ShiftsFixupsAt image place
