-- What an image of an accepted file gives. (mach-o/loader.h: segment_command_64, dysymtab_command,
-- linkedit_data_command; mach-o/nlist.h: nlist_64)
use Rattle.std.specs.Prelude.{ℕ, ◌+◌, ◌-◌, ◌≤◌, ◌<◌, List, [], take, drop}
use Rattle.std.specs.Option.{option_map_or}
use Rattle.macho_fields.specs.Field.{part}
use Rattle.macho_fields.specs.Image.{commands_of}
use Rattle.macho_fields.specs.LoadCommands.{linkedit_data_table}
use Rattle.macho_fields.specs.Segment.{vmaddr, vmsize, fileoff, filesize}
use Rattle.macho_fields.specs.Symbol.{table_place, item_count}
use Rattle.macho_fields.specs.declared.header.loader.TheConstants as loader
use Rattle.macho_image.specs.Command.{first_with_cmd}
use Rattle.macho_image.specs.Symbol.{symbols_of}

-- a symbol of an image, by its place
pub record SymbolView : Type 0 where
  pub image : List ℕ
  pub place : ℕ

abbrev pub symbol_view : List ℕ → ℕ → SymbolView
symbol_view image place = record { image = image; place = place }

-- a group of the symbols of an image: those from a first index on, so many, by two fields of its
-- LC_DYSYMTAB (dysymtab_command: ilocalsym and nlocalsym, iextdefsym and nextdefsym, iundefsym and
-- nundefsym); none where it has no LC_DYSYMTAB
abbrev pub symbol_group : (List ℕ → ℕ → ℕ) → (List ℕ → ℕ → ℕ) → List ℕ → List ℕ
symbol_group first count image =
    option_map_or (λ dysymtab.
    take (count image dysymtab) (drop (first image dysymtab) (symbols_of image (commands_of image))))
    (first_with_cmd image loader.LC_DYSYMTAB (commands_of image)) []

-- an indirect entry of an image, by its place
pub record IndirectView : Type 0 where
  pub image : List ℕ
  pub place : ℕ

abbrev pub indirect_view : List ℕ → ℕ → IndirectView
indirect_view image place = record { image = image; place = place }

-- a mapped segment has bytes of the file at so many addresses from this one on
abbrev pub HasBytesAt : List ℕ → ℕ → ℕ → ℕ → Type 0
HasBytesAt image address len segment =
    (0 < vmsize image segment) × (vmaddr image segment ≤ address)
    × (address + len ≤ vmaddr image segment + filesize image segment)

-- the bytes that the segment has at so many addresses from this one on
abbrev pub bytes_in_segment : List ℕ → ℕ → ℕ → ℕ → List ℕ
bytes_in_segment image address len segment =
    part (fileoff image segment + (address - vmaddr image segment)) len image

-- linkedit_data_command
abbrev pub dataoff : List ℕ → ℕ → ℕ
dataoff image command = table_place image command linkedit_data_table

abbrev pub datasize : List ℕ → ℕ → ℕ
datasize image command = item_count image command linkedit_data_table
