-- The lines of a layout. Each ends with one line feed.
use Rattle.std.specs.Prelude.{ℕ, ◌==◌, List, [], ◌∷◌, codes, map, take, drop, Option, Some, None, bit_and, if◌then◌else◌}
use Rattle.std.specs.Fmt.{decimal}
use Rattle.macho_fields.specs.Segment.{vmaddr, vmsize, fileoff, filesize, initprot}
use Rattle.macho_fields.specs.Segment.{section_address, section_size, section_offset, is_zero_fill}
use Rattle.macho_fields.specs.declared.header.loader.TheConstants as loader
use Rattle.macho_fields.specs.declared.header.vm_prot.TheConstants as vm_prot
use Rattle.macho_image.specs.Segment.{segment_name, section_name}
use Rattle.macho_text.specs.Stream.{joined}
use Rattle.macho_text.specs.Number.{prefixed_hex, byte_hex, upper_byte_hex, version_text}
use Rattle.macho_text.specs.Name.{quoted}

-- the first line: how many slices there are
abbrev pub count_line : ℕ → List ℕ
count_line slices = joined (codes "accepted, slices " ∷ decimal slices ∷ codes "\n" ∷ [])

-- a slice: its index from 0, its architecture, its first place and its size in the file, and the
-- word of its kind
abbrev pub slice_line : ℕ → List ℕ → ℕ → ℕ → List ℕ → List ℕ
slice_line index arch start size kind =
    joined (codes "slice " ∷ decimal index ∷ codes " " ∷ arch ∷ codes " at " ∷ prefixed_hex start
    ∷ codes " size " ∷ prefixed_hex size ∷ codes " " ∷ kind ∷ codes "\n" ∷ [])

-- the bytes of a uuid, in groups of 4, 2, 2, 2 and 6
abbrev pub group : List ℕ → ℕ → ℕ → List ℕ
group uuid start count = joined (map upper_byte_hex (take count (drop start uuid)))

abbrev pub grouped : List ℕ → List ℕ
grouped uuid =
    joined (group uuid 0 4 ∷ codes "-" ∷ group uuid 4 2 ∷ codes "-" ∷ group uuid 6 2 ∷ codes "-"
    ∷ group uuid 8 2 ∷ codes "-" ∷ group uuid 10 6 ∷ [])

-- LC_UUID: the uuid
abbrev pub uuid_line : List ℕ → List ℕ
uuid_line uuid = joined (codes "  uuid " ∷ grouped uuid ∷ codes "\n" ∷ [])

-- LC_BUILD_VERSION: the platform, and the versions minos and sdk
abbrev pub build_line : ℕ → ℕ → ℕ → List ℕ
build_line platform minos sdk =
    joined (codes "  build platform " ∷ decimal platform ∷ codes " min " ∷ version_text minos
    ∷ codes " sdk " ∷ version_text sdk ∷ codes "\n" ∷ [])

-- a bit of a protection: its letter where it is set
abbrev pub letter : ℕ → ℕ → List ℕ → List ℕ
letter protection bit set = if bit_and protection bit == 0 then codes "-" else set

abbrev pub protection_text : ℕ → List ℕ
protection_text protection =
    joined (letter protection vm_prot.VM_PROT_READ (codes "r")
    ∷ letter protection vm_prot.VM_PROT_WRITE (codes "w")
    ∷ letter protection vm_prot.VM_PROT_EXECUTE (codes "x") ∷ [])

-- a segment: its name, its part of memory, its part of the image, its initial protection
abbrev pub segment_line : List ℕ → ℕ → List ℕ
segment_line image segment =
    joined (codes "  segment " ∷ quoted (segment_name image segment)
    ∷ codes " addr " ∷ prefixed_hex (vmaddr image segment)
    ∷ codes " size " ∷ prefixed_hex (vmsize image segment)
    ∷ codes " file " ∷ prefixed_hex (fileoff image segment)
    ∷ codes " size " ∷ prefixed_hex (filesize image segment)
    ∷ codes " " ∷ protection_text (initprot image segment) ∷ codes "\n" ∷ [])

-- where the bytes of a section begin in the image, if it has any there
abbrev pub contents_of : List ℕ → ℕ → Option ℕ
contents_of image section =
    if is_zero_fill image section then None else Some (section_offset image section)

abbrev pub contents_text : Option ℕ → List ℕ
contents_text (Some place) = joined (codes "file " ∷ prefixed_hex place ∷ [])
contents_text None = codes "zero"

-- a section: its name, its part of memory, where its bytes are
abbrev pub section_line : List ℕ → ℕ → List ℕ
section_line image section =
    joined (codes "    section " ∷ quoted (section_name image section)
    ∷ codes " addr " ∷ prefixed_hex (section_address image section)
    ∷ codes " size " ∷ prefixed_hex (section_size image section)
    ∷ codes " " ∷ contents_text (contents_of image section) ∷ codes "\n" ∷ [])

-- the word of a command that names a library, by its cmd
abbrev pub library_word : ℕ → List ℕ
library_word cmd =
    if cmd == loader.LC_ID_DYLIB then codes "id"
    else (if cmd == loader.LC_LOAD_DYLIB then codes "load"
    else (if cmd == loader.LC_LOAD_WEAK_DYLIB then codes "weak"
    else (if cmd == loader.LC_REEXPORT_DYLIB then codes "reexport"
    else (if cmd == loader.LC_LAZY_LOAD_DYLIB then codes "lazy"
    else (if cmd == loader.LC_LOAD_UPWARD_DYLIB then codes "upward"
    else codes "dylib")))))

-- a library, or the image itself: the cmd of its command, its name, its current version and its
-- compatibility version
abbrev pub library_line : ℕ → List ℕ → ℕ → ℕ → List ℕ
library_line cmd name current compatible =
    joined (codes "  " ∷ library_word cmd ∷ codes " " ∷ quoted name
    ∷ codes " current " ∷ version_text current
    ∷ codes " compatible " ∷ version_text compatible ∷ codes "\n" ∷ [])

-- LC_SYMTAB: how many symbols it counts
abbrev pub symbols_line : ℕ → List ℕ
symbols_line nsyms = joined (codes "  symbols " ∷ decimal nsyms ∷ codes "\n" ∷ [])

-- the address of the entry point, where there is one
abbrev pub entry_line : Option ℕ → List ℕ
entry_line (Some address) = joined (codes "  entry " ∷ prefixed_hex address ∷ codes "\n" ∷ [])
entry_line None = codes "  entry none\n"

-- a code directory: the word of its hash type, and its cdhash
abbrev pub cdhash_line : List ℕ → List ℕ → List ℕ
cdhash_line hash_type cdhash =
    joined (codes "  cdhash " ∷ hash_type ∷ codes " " ∷ joined (map byte_hex cdhash) ∷ codes "\n" ∷ [])
