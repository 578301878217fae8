use Rattle.std.proofs.Common.{None, arith, subst, map, ap, ◌∙◌}
use Rattle.macho_fields.specs.Image.{commands_of}
use Rattle.macho_fields.specs.First.{rank}
use Rattle.macho_fields.specs.declared.rule.Rule.TheVariants as rule
use Rattle.macho_image.specs.Command.{command_at}
use Rattle.macho_image.specs.Opened.{IsOpened}
use Rattle.macho_image.proofs.Opened.{opened_below}
use Rattle.macho_image.proofs.KeptRules.{kept_less}
use Rattle.macho_image.proofs.image.Image.commands.Goals as goal

pub commands-requires : goal.commands-requires
commands-requires c = kept_less _ None (rank rule.CommandShort) (rank rule.SegmentAddress) (omega arith) (opened_below _ c.self.invariant.opened)

pub returns-clause-commands : goal.returns-clause-commands
returns-clause-commands c = c.commands.ensures ∙ ap (λ image. map (command_at image) (commands_of image)) c.self.view_is

pub returns-clause-opened : goal.returns-clause-opened
returns-clause-opened c = subst IsOpened c.self.view_is c.self.invariant.opened
