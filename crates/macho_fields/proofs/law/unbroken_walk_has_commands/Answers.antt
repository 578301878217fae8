use Rattle.std.proofs.Common.{None, inl}
use Rattle.macho_fields.proofs.Parts.{commands_of_walk}
use Rattle.macho_fields.proofs.law.unbroken_walk_has_commands.Goals as goal

pub returns : goal.returns
returns c = commands_of_walk c.args.image.now None (λ place broken. c.requires place (inl broken))
