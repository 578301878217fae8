-- The data that a linkedit_data_command of an accepted image names.
use Rattle.std.proofs.Common.{◌≡◌, ℕ, ◌+◌, ◌*◌, ◌≤◌, ◌<◌, List, length, Any, Contains, Some, refl, ap, ◌∙◌, arith, lit<, inl}
use Rattle.macho_spans.specs.Span.{Covers}
use Rattle.macho_fields.specs.Image.{command_cmd, commands_of}
use Rattle.macho_fields.specs.Command.{HasStructure, least_size}
use Rattle.macho_fields.specs.LoadCommands.{structure_of, linkedit_data_table}
use Rattle.macho_fields.specs.Loader.{IsSoundImage}
use Rattle.macho_fields.specs.Loader.Reads.{in_structure, in_table}
use Rattle.macho_fields.specs.Symbol.{table_at, tables_of}
use Rattle.macho_fields.specs.declared.load_command.Structure.TheVariants.{LinkeditDataCommand}
use Rattle.macho_fields.proofs.LoadCommands.{has_structure, table_listed, linkedit_data_listed}
use Rattle.macho_fields.proofs.Parts.{with_cmd_is, with_cmd_among}
use Rattle.macho_image.specs.Command.{first_with_cmd}
use Rattle.macho_rules.proofs.OneCommand.{is_with_cmd}
use Rattle.macho_rules.proofs.Searches.{any_of}
use Rattle.macho_verified.specs.Image.{dataoff, datasize}
use Rattle.macho_verified.specs.Accepted.{IsAccepted, HasData}
use Rattle.macho_verified.proofs.Accepted.{accepted_sound, range_inside}

-- The first command of a kind whose structure is linkedit_data_command
module _ (image : List ℕ) (keeps : IsAccepted image) (cmd : ℕ) (listed : structure_of cmd ≡ Some LinkeditDataCommand) (command : ℕ)
    (first : first_with_cmd image cmd (commands_of image) ≡ Some command) where
  among : Contains (commands_of image) command
  among = with_cmd_among image (commands_of image) cmd command (is_with_cmd image cmd command first)

  structure : structure_of (command_cmd image command) ≡ Some LinkeditDataCommand
  structure = ap structure_of (with_cmd_is image (commands_of image) cmd command (is_with_cmd image cmd command first)) ∙ listed

  sound : IsSoundImage image (commands_of image)
  sound = accepted_sound image keeps

  -- its fields lie in the image
  pub fields_inside : command + 16 ≤ length image
  fields_inside =
      range_inside (length image) command 16 (lit< tt)
      (λ place covers. sound.reads place (in_structure
      (any_of (λ c. HasStructure image c (λ s. Covers c (least_size image c s) place)) (commands_of image) command among
      ((has_structure image command (λ s. Covers command (least_size image command s) place) LinkeditDataCommand structure).1 covers))))

  -- so does its data, where it has any
  pub data_inside : HasData image command
  data_inside some =
      range_inside (length image) (dataoff image command) (datasize image command) (omega (arith, some))
      (λ place covers. sound.reads place (in_table (dataoff image command) (datasize image command)
      (inl (any_of (λ c. Any (λ table. (0 < table.1) × (dataoff image command ≡ table.0) × (datasize image command ≡ table.1 * table.2)) (tables_of image c)) (commands_of image) command among
      (any_of (λ table. (0 < table.1) × (dataoff image command ≡ table.0) × (datasize image command ≡ table.1 * table.2)) (tables_of image command) (table_at image command linkedit_data_table)
      (table_listed image command LinkeditDataCommand linkedit_data_table structure linkedit_data_listed) (omega (arith, some), refl, omega arith)))) covers))
