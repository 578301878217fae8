use Rattle.std.proofs.Common.{◌≤◌, ◌∙◌, ap, length, arith}
use Rattle.macho_fields.specs.Bytes.{bytes_of}
use Rattle.macho_fields.specs.Image.{commands_end}
use Rattle.macho_image.proofs.Opened.{opened_keeps}
use Rattle.macho_image.proofs.image.Image.commands_end.Goals as goal

pub end_of_commands-requires : goal.end_of_commands-requires
end_of_commands-requires c =
    let header : 32 ≤ length (bytes_of c.self.inside.bytes) = (opened_keeps _ c.self.invariant.opened).header in omega arith

pub returns-clause-end : goal.returns-clause-end
returns-clause-end c = c.end_of_commands.ensures.end ∙ ap commands_end c.self.view_is
