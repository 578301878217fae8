use Rattle.macho_image.proofs.Kept.{first_yielded}
use Rattle.macho_image.proofs.image.Image.first_command.Goals as goal

pub returns : goal.returns
returns c = first_yielded c.args.self.now _ _ c.args.cmd _ c.commands.ensures.commands c.next_with_cmd.ensures
