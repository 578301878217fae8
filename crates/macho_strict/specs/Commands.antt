-- What one walk over the load commands of an image finds.
use Rattle.std.specs.Prelude.{◌≡◌, ◌↔◌, ◌⊎◌, ℕ, ◌+◌, List, ◌++◌, MatchOption, Some, IsTrue}
use Rattle.macho_fields.specs.FirstPlace.{IsLeastPlace}
use Rattle.macho_fields.specs.Image.{commands_of, IsChain}
use Rattle.macho_fields.specs.declared.rule.Rule.TheVariants as rule
use Rattle.macho_image.specs.Command.{CommandView}
use Rattle.macho_image.specs.Opened.{IsOpened}
use Rattle.macho_strict.specs.Claims.{AreNoted}
use Rattle.macho_strict.specs.Elements.{command_elements, elements_of}
use Rattle.macho_strict.specs.Encrypted.{IsEncrypted}
use Rattle.macho_strict.specs.Rules.{BreaksStrictImage}
use Rattle.macho_strict.specs.Slack.{IsNonZeroSlack}
use Rattle.macho_strict.specs.Verdict.{HasEncrypted}
use Rattle.macho_strict.specs.declared.commands.NotedCommands.{NotedCommands}
use Rattle.macho_strict.specs.declared.elements.Element.{Element}

-- what one more command adds to what was noted
pub record NotesOne (image : List ℕ) (command : CommandView) (old new : NotedCommands) : Type 0 where
  pub end : new.end ≡ command.place + command.size
  pub slack : MatchOption old.slack (IsLeastPlace (IsNonZeroSlack image command.place) new.slack)
      (λ place. new.slack ≡ Some place)
  pub encrypted : IsTrue new.encrypted ↔ (IsTrue old.encrypted ⊎ IsEncrypted image command)
  pub elements : (elements : List Element) → AreNoted image elements old.elements
      → AreNoted image (elements ++ command_elements image command.place) new.elements

-- what was noted of the commands of the image
pub record IsNotedOf (image : List ℕ) (noted : NotedCommands) : Type 0 where
  pub opened : IsOpened image
  pub end : IsChain image (commands_of image) noted.end
  pub slack : IsLeastPlace (BreaksStrictImage image rule.CommandSlack) noted.slack
  pub encrypted : IsTrue noted.encrypted ↔ HasEncrypted image
  pub elements : AreNoted image (elements_of image) noted.elements
