-- The names of the commands of an opened image.
use Rattle.std.proofs.Common.{◌≡◌, ℕ, ◌+◌, ◌≤◌, List, length, true, All, Contains, Some, sym, ap, ◌∙◌, subst, arith}
use Rattle.std.proofs.lemmas.List.Elements.{All-map, All-contains_itself}
use Rattle.macho_fields.specs.Command.{IsNamed, name_start}
use Rattle.macho_fields.specs.Field.{HasZero}
use Rattle.macho_fields.specs.Image.{command_cmd, command_size, commands_of, with_cmd}
use Rattle.macho_fields.specs.LoadCommands.{structure_of, structure_size, has_name}
use Rattle.macho_fields.specs.declared.load_command.Structure.{Structure}
use Rattle.macho_fields.proofs.LoadCommands.{name_inside}
use Rattle.macho_fields.proofs.Opened.{command_inside, name_ended}
use Rattle.macho_fields.proofs.Options.{of_some}
use Rattle.macho_fields.proofs.Parts.{with_cmd_is, with_cmd_among}
use Rattle.macho_image.specs.Command.{CommandView, command_at, first_with_cmd}
use Rattle.macho_image.specs.Opened.{IsOpened}
use Rattle.macho_image.specs.Views.{HaveAll, HoldsName, HoldNames}
use Rattle.macho_image.proofs.Kept.{held, got_first}
use Rattle.macho_image.proofs.Opened.{opened_keeps}
use Rattle.macho_image.proofs.OpenedWalk.{opened_commands}

pub ended : (image : List ℕ) (command : ℕ) → IsNamed image command → IsOpened image → Contains (commands_of image) command → HasZero image (name_start image command) (length image)
ended image command named opened has =
    let keeps = opened_keeps image opened in
    let are = opened_commands image opened in
    let inside : command + command_size image command ≤ length image = command_inside image (commands_of image) keeps are command has in
    let (z, low, high, within, zero_here) = name_ended image (commands_of image) keeps are command has named in
    (z, low, omega arith, within, zero_here)

-- where the structure of their kind has a name, the name of each is held
held_name : (image : List ℕ) (cmd command : ℕ) (s : Structure) → structure_of cmd ≡ Some s → has_name s ≡ true → IsOpened image → Contains (with_cmd image cmd (commands_of image)) command
    → HoldsName image command
held_name image cmd command s listed named opened has =
    let is : command_cmd image command ≡ cmd = with_cmd_is image (commands_of image) cmd command has in
    let whole : command + structure_size s ≤ length image = held image cmd command s listed opened has in
    let room : 12 ≤ structure_size s = name_inside s named in record {
      whole = omega arith;
      ended = ended image command (of_some (λ t. has_name t ≡ true) (structure_of (command_cmd image command)) s (ap structure_of is ∙ listed) named) opened
          (with_cmd_among image (commands_of image) cmd command has);
    }

pub all_names_held : (image : List ℕ) (all : List CommandView) (cmd : ℕ) (s : Structure) → structure_of cmd ≡ Some s → has_name s ≡ true → IsOpened image → HaveAll cmd image all
    → HoldNames image cmd all
all_names_held image all cmd s listed named opened is =
    let places = with_cmd image cmd (commands_of image) in
    subst (All (λ c. HoldsName image c.place)) (sym is) (All-map (λ c. HoldsName image c.place) (command_at image) places
    (λ k d less. held_name image cmd _ s listed named opened (All-contains_itself places k d less)))

-- the name of the first of them
pub first_name_held : (image : List ℕ) (cmd place : ℕ) (s : Structure) → structure_of cmd ≡ Some s → has_name s ≡ true → IsOpened image
    → first_with_cmd image cmd (commands_of image) ≡ Some place → HoldsName image place
first_name_held image cmd place s listed named opened is = held_name image cmd place s listed named opened (got_first (with_cmd image cmd (commands_of image)) place is)
