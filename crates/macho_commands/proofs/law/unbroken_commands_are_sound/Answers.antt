use Rattle.macho_commands.proofs.SoundCommands.{sound_commands}
use Rattle.macho_commands.proofs.law.unbroken_commands_are_sound.Goals as goal

pub returns : goal.returns
returns c = sound_commands c.args.image.now c.requires.thread c.requires.content
