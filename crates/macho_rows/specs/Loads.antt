-- The load commands of any bytes: as many as can be walked to. (mach-o/loader.h: load_command)
use Rattle.std.specs.Prelude.{◌≡◌, ℕ, zero, suc, ◌+◌, ◌-◌, ◌*◌, ◌%◌, ◌^◌, ◌≤◌, ◌<◌, ◌==◌, ◌&&◌, ◌||◌, List, [], ◌∷◌, length, filter, nat_le, nat_lt, if◌then◌else◌, Bool, true, not, Option, Some, None, slice_get}
use Rattle.std.specs.Option.{option_map_or}
use Rattle.macho_fields.specs.Image.{command_cmd, command_size, command_count, commands_end}
use Rattle.macho_fields.specs.LoadCommands.{names_library}
use Rattle.macho_fields.specs.Segment.{nsects}
use Rattle.macho_fields.specs.declared.header.loader.TheConstants as loader
use Rattle.macho_rows.specs.Cursor.{start}
use Rattle.macho_rows.specs.declared.cursor.KesvuotCursor.{KesvuotCursor}
use Rattle.macho_rows.specs.declared.load.Load.{Load}
use Rattle.macho_rows.specs.declared.load.Wanted.{Wanted}
use Rattle.macho_rows.specs.declared.load.Wanted.TheVariants as wanted

-- a command can be at the place: the commands lie inside the image and the command among them, and its
-- cmdsize is a multiple of 8, and no less than the size of load_command
abbrev pub is_command : List ℕ → ℕ → Bool
is_command image place =
    nat_le (commands_end image) (length image)
    && nat_le (place + loader.LOAD_COMMAND_SIZE) (commands_end image)
    && (command_size image place % 8 == 0)
    && nat_le loader.LOAD_COMMAND_SIZE (command_size image place)
    && nat_le (place + command_size image place) (commands_end image)

-- up to so many commands, one after another from the place on, before the first place at which none can
-- be
abbrev pub commands_from : List ℕ → ℕ → ℕ → List ℕ
commands_from image place zero = []
commands_from image place (suc left) =
    if is_command image place
    then place ∷ commands_from image (place + command_size image place) left else []

-- where the next command of a cursor begins: the first one past the header
abbrev pub next_place : KesvuotCursor → ℕ
next_place cursor =
    if nat_lt cursor.place loader.MACH_HEADER_64_SIZE then loader.MACH_HEADER_64_SIZE
    else cursor.place

-- the commands that remain at a cursor
abbrev pub commands_left : List ℕ → KesvuotCursor → List ℕ
commands_left image cursor =
    commands_from image (next_place cursor) (command_count image - cursor.commands)

-- Which of them have the structure that they are wanted for

-- LC_SEGMENT_64, whose sections lie in the command
abbrev pub is_segment : List ℕ → ℕ → Bool
is_segment image command =
    (command_cmd image command == loader.LC_SEGMENT_64)
    && nat_le (loader.SEGMENT_COMMAND_64_SIZE + loader.SECTION_64_SIZE * nsects image command)
    (command_size image command)

-- a library that the image loads; LC_ID_DYLIB names the image itself
abbrev pub loads_library : ℕ → Bool
loads_library cmd = names_library cmd && not (cmd == loader.LC_ID_DYLIB)

-- dylib_command has 24 bytes
abbrev pub is_library : List ℕ → ℕ → Bool
is_library image command =
    loads_library (command_cmd image command) && nat_le 24 (command_size image command)

-- the platform of the version_min_command with this cmd: PLATFORM_MACOS (1) of LC_VERSION_MIN_MACOSX
-- (0x24), PLATFORM_IOS (2) of LC_VERSION_MIN_IPHONEOS (0x25), PLATFORM_TVOS (3) of LC_VERSION_MIN_TVOS
-- (0x2f), PLATFORM_WATCHOS (4) of LC_VERSION_MIN_WATCHOS (0x30)
abbrev pub version_min_platform : ℕ → Option ℕ
version_min_platform cmd =
    if cmd == 36 then Some 1 else (if cmd == 37 then Some 2
    else (if cmd == 47 then Some 3 else (if cmd == 48 then Some 4 else None)))

-- build_version_command has 24 bytes, version_min_command 16
abbrev pub is_build : List ℕ → ℕ → Bool
is_build image command =
    option_map_or (λ platform. nat_le 16 (command_size image command))
    (version_min_platform (command_cmd image command))
    ((command_cmd image command == loader.LC_BUILD_VERSION)
    && nat_le 24 (command_size image command))

-- LC_SOURCE_VERSION (0x2a): source_version_command has 16 bytes
abbrev pub is_source_version : List ℕ → ℕ → Bool
is_source_version image command =
    (command_cmd image command == 42) && nat_le 16 (command_size image command)

-- symtab_command has 24 bytes, dysymtab_command 80, dyld_info_command 48, encryption_info_command_64 24
abbrev pub is_symtab : List ℕ → ℕ → Bool
is_symtab image command =
    (command_cmd image command == loader.LC_SYMTAB) && nat_le 24 (command_size image command)

abbrev pub is_dysymtab : List ℕ → ℕ → Bool
is_dysymtab image command =
    (command_cmd image command == loader.LC_DYSYMTAB) && nat_le 80 (command_size image command)

abbrev pub is_dyld_info : ℕ → Bool
is_dyld_info cmd = (cmd == loader.LC_DYLD_INFO) || (cmd == loader.LC_DYLD_INFO_ONLY)

abbrev pub has_dyld_info : List ℕ → ℕ → Bool
has_dyld_info image command =
    is_dyld_info (command_cmd image command) && nat_le 48 (command_size image command)

abbrev pub is_encryption_info : List ℕ → ℕ → Bool
is_encryption_info image command =
    (command_cmd image command == loader.LC_ENCRYPTION_INFO_64)
    && nat_le 24 (command_size image command)

-- linkedit_data_command has 16
abbrev pub is_linkedit_data : ℕ → List ℕ → ℕ → Bool
is_linkedit_data cmd image command =
    (command_cmd image command == cmd) && nat_le 16 (command_size image command)

abbrev pub is_wanted : Wanted → List ℕ → ℕ → Bool
is_wanted wanted.All image command = true
is_wanted wanted.Segments image command = is_segment image command
is_wanted wanted.Libraries image command = is_library image command
is_wanted wanted.Builds image command = is_build image command
is_wanted wanted.SourceVersions image command = is_source_version image command
is_wanted wanted.Symtabs image command = is_symtab image command
is_wanted wanted.Dysymtabs image command = is_dysymtab image command
is_wanted wanted.DyldInfos image command = has_dyld_info image command
is_wanted wanted.EncryptionInfos image command = is_encryption_info image command
is_wanted (wanted.LinkeditData cmd) image command = is_linkedit_data cmd image command

-- those that remain at a cursor
abbrev pub wanted_left : Wanted → List ℕ → KesvuotCursor → List ℕ
wanted_left wanted image cursor = filter (is_wanted wanted image) (commands_left image cursor)

-- the first of all
abbrev pub first_wanted : Wanted → List ℕ → Option ℕ
first_wanted wanted image = slice_get (wanted_left wanted image start) 0

-- What only proofs need.

-- the fields of a command, which lies inside the image
pub record IsLoad (image : List ℕ) (load : Load) : Type 0 where
  pub cmd : load.cmd ≡ command_cmd image load.place
  pub size : load.size ≡ command_size image load.place
  pub inside : load.place + load.size ≤ length image
  pub least : 8 ≤ load.size
  pub near : load.place < 2 ^ 33
  pub is : is_command image load.place ≡ true
