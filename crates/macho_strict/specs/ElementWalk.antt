-- A walk over the elements of an image: what is left of them.
use Rattle.std.specs.Prelude.{ℕ, ◌+◌, ◌-◌, ◌*◌, ◌^◌, ◌≤◌, ◌<◌, List, [], ◌++◌, length, map, flat_map, Option, option_to_list}
use Rattle.std.specs.Option.{option_map_or}
use Rattle.macho_fields.specs.LoadCommands.{width_size}
use Rattle.macho_fields.specs.Symbol.{table_at}
use Rattle.macho_fields.specs.declared.load_command.TableFields.{TableFields}
use Rattle.macho_image.specs.Command.{CommandView}
use Rattle.macho_image.specs.Segment.{SectionView}
use Rattle.macho_strict.specs.Elements.{section_elements, table_element, command_elements}
use Rattle.macho_strict.specs.declared.elements.Element.{Element}

-- the tables of a command that remain
abbrev pub tables_left : List ℕ → ℕ → List TableFields → List Element
tables_left image command tables =
    map (λ fields. table_element command (table_at image command fields)) tables

-- the elements of the sections that remain
abbrev pub section_elements_left : List SectionView → List Element
section_elements_left sections = flat_map (λ s. section_elements s.image s.place) sections

-- what a command describes that remains: an element that is next, and the elements of its sections and its tables
abbrev pub described_left : Option Element → Option (List SectionView) → List Element → List Element
described_left pending sections tables =
    option_to_list pending ++ (option_map_or section_elements_left sections [] ++ tables)

-- what the commands that remain describe
abbrev pub elements_left : List ℕ → List CommandView → List Element
elements_left image commands = flat_map (λ c. command_elements image c.place) commands

-- the fields that bound a table lie inside the image, and its size in bytes has 64 bits
pub record HoldsTable (image : List ℕ) (command : ℕ) (fields : TableFields) : Type 0 where
  pub place : command + fields.place + width_size fields.width ≤ length image
  pub count : command + fields.count + width_size fields.width ≤ length image
  pub near : (2 ^ (8 * width_size fields.width) - 1) * fields.item_size < 2 ^ 64
