-- A command of the image has its whole structure.
use Rattle.std.proofs.Common.{◌≡◌, ◌∙◌, ℕ, ◌+◌, ◌≤◌, List, length, Some, sym, ap, arith}
use Rattle.macho_fields.specs.Image.{command_cmd, command_size, commands_of}
use Rattle.macho_fields.specs.Command.{records_size}
use Rattle.macho_fields.specs.LoadCommands.{structure_of, structure_size}
use Rattle.macho_fields.specs.declared.load_command.Structure.{Structure}
use Rattle.macho_fields.proofs.Opened.{command_inside, structure_inside}
use Rattle.macho_image.specs.Command.{CommandView}
use Rattle.macho_image.specs.Opened.{IsCommandOf}
use Rattle.macho_rules.proofs.Judged.{opened_facts, opened_commands}

module _ (image : List ℕ) (command : CommandView) (is : IsCommandOf image command) (cmd : ℕ) (seen : command.cmd ≡ cmd) where
  pub number_is : command_cmd image command.place ≡ cmd
  number_is = sym (ap (λ (v : CommandView). v.cmd) is.same) ∙ seen

  pub structure_whole : (s : Structure) → structure_of cmd ≡ Some s → command.place + structure_size s ≤ length image
  structure_whole s listed =
      let facts = opened_facts image is.opened in
      let are = opened_commands image is.opened in
      let whole : structure_size s + records_size image command.place s ≤ command_size image command.place =
      structure_inside image (commands_of image) facts are command.place s is.listed (ap structure_of number_is ∙ listed) in
      let inside = command_inside image (commands_of image) facts are command.place is.listed in
      omega (arith, whole, inside)
