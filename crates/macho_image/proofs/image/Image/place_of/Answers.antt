use Rattle.std.proofs.Common.{◌+◌, ◌≤◌, length, subst}
use Rattle.std.specs.Prelude.{IfSome}
use Rattle.std.specs.Option.{option_map_or}
use Rattle.macho_fields.specs.LoadCommands.{structure_of, structure_size}
use Rattle.macho_image.proofs.Kept.{first_inside}
use Rattle.macho_image.proofs.image.Image.place_of.Goals as goal

pub returns-clause-inside : goal.returns-clause-inside
returns-clause-inside c =
    subst (λ image. IfSome c.of.result (λ place. place + option_map_or structure_size (structure_of c.args.cmd) 0 ≤ length image)) c.self.view_is
    (first_inside _ c.args.cmd c.of.result c.self.invariant.opened (c.of.ensures.unique _ _ c.self.invariant.all.first c.requires))
