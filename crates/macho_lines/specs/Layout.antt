-- The layout of an accepted file as text. `says` is what the report says of an image, given its bytes, after the lines of it.
use Rattle.std.specs.Prelude.{◌&&◌, ℕ, ◌==◌, not, nat_le, List, [], ◌∷◌, length, map, filter, codes, Bool, if◌then◌else◌}
use Rattle.std.specs.List.{enumerate_from}
use Rattle.std.specs.Option.{option_map_or}
use Rattle.macho_fields.specs.Field.{number}
use Rattle.macho_fields.specs.FileTypes.{file_type_of}
use Rattle.macho_fields.specs.Image.{cpu_type, cpu_subtype, file_type, command_cmd, commands_of, with_cmd}
use Rattle.macho_fields.specs.Segment.{segments_of, sections_in}
use Rattle.macho_fields.specs.Symbol.{nsyms}
use Rattle.macho_fields.specs.Universal.{FileSlice, slices_of, slice_bytes, masked}
use Rattle.macho_fields.specs.declared.bytes.Order.TheVariants.{Little}
use Rattle.macho_fields.specs.declared.header.loader.TheConstants as loader
use Rattle.macho_image.specs.Build.{build_at}
use Rattle.macho_image.specs.Command.{first_with_cmd}
use Rattle.macho_image.specs.Entry.{entry_of}
use Rattle.macho_image.specs.Library.{libraries, dylib_at}
use Rattle.macho_image.specs.Single.{uuid_at}
use Rattle.macho_text.specs.Stream.{joined}
use Rattle.macho_lines.specs.Arch.{arch_text}
use Rattle.macho_lines.specs.Line.{count_line, slice_line, uuid_line, build_line, segment_line, section_line, library_line, symbols_line, entry_line}

-- The lines of an image, which stand in this order; lines of one kind in the order of the commands

-- the line of a command that names a library
abbrev pub library_text : List ℕ → ℕ → List ℕ
library_text image command =
    let library = dylib_at image command in
    library_line library.cmd library.name library.current library.compatible

-- the line of LC_ID_DYLIB
abbrev pub id_text : List ℕ → List ℕ → List ℕ
id_text image commands =
    option_map_or (library_text image) (first_with_cmd image loader.LC_ID_DYLIB commands) []

-- the line of LC_UUID
abbrev pub uuid_text : List ℕ → List ℕ → List ℕ
uuid_text image commands =
    option_map_or (λ command. uuid_line (uuid_at image command))
    (first_with_cmd image loader.LC_UUID commands) []

-- the lines of LC_BUILD_VERSION
abbrev pub build_text : List ℕ → ℕ → List ℕ
build_text image command =
    let build = build_at image command in build_line build.platform build.minos build.sdk

abbrev pub builds_text : List ℕ → List ℕ → List ℕ
builds_text image commands =
    joined (map (build_text image) (with_cmd image loader.LC_BUILD_VERSION commands))

-- the lines of the segments, each before the lines of its sections
abbrev pub segment_text : List ℕ → ℕ → List ℕ
segment_text image segment =
    joined (segment_line image segment
    ∷ joined (map (section_line image) (sections_in image segment)) ∷ [])

abbrev pub segments_text : List ℕ → List ℕ → List ℕ
segments_text image commands = joined (map (segment_text image) (segments_of image commands))

-- the lines of the libraries, without the line of the image itself
abbrev pub libraries_text : List ℕ → List ℕ → List ℕ
libraries_text image commands =
    joined (map (library_text image)
    (filter (λ command. not (command_cmd image command == loader.LC_ID_DYLIB))
    (libraries image commands)))

-- the line of LC_SYMTAB
abbrev pub symbols_text : List ℕ → List ℕ → List ℕ
symbols_text image commands =
    option_map_or (λ command. symbols_line (nsyms image command))
    (first_with_cmd image loader.LC_SYMTAB commands) []

abbrev pub image_text : List ℕ → List ℕ
image_text image =
    let commands = commands_of image in
    joined (id_text image commands ∷ uuid_text image commands ∷ builds_text image commands
    ∷ segments_text image commands ∷ libraries_text image commands ∷ symbols_text image commands
    ∷ entry_line (entry_of image commands) ∷ [])

-- The lines of a slice

-- mach_header_64.magic: the bytes begin a 64-bit little-endian image
abbrev pub is_image : List ℕ → Bool
is_image bytes = nat_le 4 (length bytes) && (number Little 4 bytes 0 == loader.MH_MAGIC_64)

-- mach_header_64.filetype: the word for what an image is
abbrev pub kind_text : List ℕ → List ℕ
kind_text image = option_map_or (λ listed. listed.word) (file_type_of (file_type image)) []

-- An image has its own architecture in the text. A slice that is not read has its entry's: in
-- an accepted file each such slice has one.
abbrev pub image_slice_text : (List ℕ → List ℕ) → List ℕ → ℕ → FileSlice → List ℕ
image_slice_text says image index slice =
    joined (slice_line index (arch_text (cpu_type image, masked (cpu_subtype image)))
    slice.start slice.size (kind_text image) ∷ image_text image ∷ says image ∷ [])

abbrev pub unread_slice_text : ℕ → FileSlice → List ℕ
unread_slice_text index slice =
    slice_line index (option_map_or arch_text slice.arch []) slice.start slice.size
    (codes "not read")

abbrev pub slice_text : (List ℕ → List ℕ) → List ℕ → ℕ × FileSlice → List ℕ
slice_text says file indexed =
    let bytes = slice_bytes file indexed.1 in
    if is_image bytes then image_slice_text says bytes indexed.0 indexed.1
    else unread_slice_text indexed.0 indexed.1

-- the layout of a file: how many slices it has, and the lines of each, in the order of the table
abbrev pub layout_with : (List ℕ → List ℕ) → List ℕ → List ℕ
layout_with says file =
    joined (count_line (length (slices_of file))
    ∷ joined (map (slice_text says file) (enumerate_from 0 (slices_of file))) ∷ [])

-- the same, where nothing more is said of an image
abbrev pub layout_text : List ℕ → List ℕ
layout_text = layout_with (λ _. [])
