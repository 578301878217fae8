-- What holds of every opened image.
use Rattle.std.specs.Prelude.{◌≡◌, ℕ, List, Contains, None}
use Rattle.macho_fields.specs.First.{rank}
use Rattle.macho_fields.specs.Image.{commands_of}
use Rattle.macho_fields.specs.Layers.{KeptBelow}
use Rattle.macho_fields.specs.Rules.{BreaksImage}
use Rattle.macho_fields.specs.declared.rule.Rule.TheVariants as rule
use Rattle.macho_image.specs.Command.{CommandView, command_at}

-- the bytes break none of the rules before segment-address, up to name
unfoldable pub IsOpened : List ℕ → Type 0
IsOpened image = KeptBelow (BreaksImage image None) (rank rule.SegmentAddress)

-- the command is one of an opened image
pub record IsCommandOf (image : List ℕ) (command : CommandView) : Type 0 where
  pub opened : IsOpened image
  pub listed : Contains (commands_of image) command.place
  pub same : command ≡ command_at image command.place
