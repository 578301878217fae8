-- The elements of an image: the parts of it that its structures describe, each with the place of what
-- describes it. (mach-o/loader.h: mach_header_64, section_64 and the commands that bound tables;
-- mach-o/reloc.h: relocation_info)
use Rattle.std.specs.Prelude.{ℕ, ◌*◌, ◌==◌, nat_lt, List, [], ◌∷◌, map, flat_map, if◌then◌else◌}
use Rattle.std.specs.Option.{option_map_or}
use Rattle.macho_fields.specs.Image.{command_cmd, command_size, commands_end, commands_of}
use Rattle.macho_fields.specs.LoadCommands.{structure_of, table_fields, unlisted_tables}
use Rattle.macho_fields.specs.Segment.{sections_in, section_offset, section_size, is_zero_fill, reloff, nreloc}
use Rattle.macho_fields.specs.Symbol.{table_at}
use Rattle.macho_fields.specs.declared.header.loader.TheConstants as loader
use Rattle.macho_fields.specs.declared.header.reloc.TheConstants as reloc
use Rattle.macho_fields.specs.declared.load_command.TableFields.{TableFields}
use Rattle.macho_strict.specs.declared.elements.Element.{Element}

-- so many bytes from a place on, which are described at another place. They may be none.
abbrev pub element : ℕ → ℕ → ℕ → Element
element described start size =
    record { described = described; span = record { start = start; len = size } }

-- the header and the bytes that it gives to the commands
abbrev pub headers : List ℕ → Element
headers image = element 0 0 (commands_end image)

-- section_64: the bytes of the section in the file, which a zero-fill section does not have
abbrev pub contents : List ℕ → ℕ → Element
contents image section =
    element section (section_offset image section)
    (if is_zero_fill image section then 0 else section_size image section)

-- section_64: reloff and nreloc
abbrev pub relocations : List ℕ → ℕ → Element
relocations image section =
    element section (reloff image section) (reloc.RELOCATION_INFO_SIZE * nreloc image section)

abbrev pub section_elements : List ℕ → ℕ → List Element
section_elements image section = contents image section ∷ relocations image section ∷ []

-- a table that a command bounds: the place of its first item, the count of its items, the size of an
-- item
abbrev pub table_element : ℕ → ℕ × ℕ × ℕ → Element
table_element command table = element command table.0 (table.1 * table.2)

-- The tables of a command that are elements, by its cmd and its size. The range of an
-- LC_ENCRYPTION_INFO_64 is not one: it covers what sections have. A command that is not judged has its
-- table if it is as long as its structure.
abbrev pub described_tables : ℕ → ℕ → List TableFields
described_tables cmd size =
    if cmd == loader.LC_ENCRYPTION_INFO_64 then []
    else option_map_or table_fields (structure_of cmd)
    (if nat_lt size loader.LINKEDIT_DATA_COMMAND_SIZE then [] else unlisted_tables cmd)

-- The elements that a command describes: of a segment its sections, of any other command its
-- tables.
abbrev pub command_elements : List ℕ → ℕ → List Element
command_elements image command =
    if command_cmd image command == loader.LC_SEGMENT_64
    then flat_map (section_elements image) (sections_in image command)
    else map (λ fields. table_element command (table_at image command fields))
    (described_tables (command_cmd image command) (command_size image command))

-- all elements of an image, in order
abbrev pub elements_of : List ℕ → List Element
elements_of image = headers image ∷ flat_map (command_elements image) (commands_of image)
