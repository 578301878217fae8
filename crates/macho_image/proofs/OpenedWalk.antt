-- The walk over the commands of an opened image.
use Rattle.std.proofs.Common.{◌≡◌, ℕ, ◌≤◌, List, length, Option, None, sym, subst, arith}
use Rattle.std.proofs.lemmas.List.Elements.{All-contains_itself}
use Rattle.macho_fields.specs.Image.{command_count, commands_end, commands_of, AreCommands}
use Rattle.macho_fields.specs.Layers.{KeptBelow}
use Rattle.macho_fields.specs.Rules.{BreaksImage}
use Rattle.macho_fields.specs.First.{rank}
use Rattle.macho_fields.specs.declared.rule.Rule.TheVariants as rule
use Rattle.macho_fields.proofs.Parts.{command_good}
use Rattle.macho_image.specs.Opened.{IsOpened}
use Rattle.macho_image.specs.Walk.{CanWalk}
use Rattle.macho_image.proofs.Opened.{opened_below}
use Rattle.macho_image.proofs.KeptRules.{commands_inside, has_commands}

-- an opened image has its commands
pub opened_commands : (image : List ℕ) → IsOpened image → AreCommands image (commands_of image)
opened_commands image opened = has_commands image None (rank rule.SegmentAddress) (omega arith) (opened_below image opened)

pub opened_inside : (image : List ℕ) → IsOpened image → commands_end image ≤ length image
opened_inside image opened = commands_inside image None (rank rule.SegmentAddress) (omega arith) (opened_below image opened)

-- where the walk does not break, all commands can be gone over
pub can_walk : (image : List ℕ) (arch : Option (ℕ × ℕ)) (left : ℕ) → left ≡ command_count image → KeptBelow (BreaksImage image arch) (rank rule.CommandShort) → CanWalk image 32 left
can_walk image arch left count below =
    subst (CanWalk image 32) (sym count) (record {
      good = λ k d less. command_good image (commands_of image) _ (has_commands image arch (rank rule.CommandShort) (omega arith) below) (All-contains_itself (commands_of image) k d less);
      inside = commands_inside image arch (rank rule.CommandShort) (omega arith) below;
    })
