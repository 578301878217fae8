use Rattle.std.proofs.Common.{◌≡◌, arith, ap, sym, ◌∙◌}
use Rattle.macho_fields.specs.Bytes.{bytes_of}
use Rattle.macho_fields.specs.Image.{command_size}
use Rattle.macho_image.proofs.Walked.{first_good, walk_left, yields_first}
use Rattle.macho_image.proofs.Progress.{nearer_end}
use Rattle.macho_image.proofs.command.CommandsIterator.next.Goals as goal

pub command_from-command-requires-clause-good : goal.command_from-command-requires-clause-good
command_from-command-requires-clause-good c =
    first_good (bytes_of c.self.inside.image) c.self.inside.place c.self.inside.left (omega arith) c.self.invariant

pub invariant_of-self : goal.invariant_of-self
invariant_of-self c =
    let size : c.from.result ≡ command_size (bytes_of c.self.inside.image) c.self.inside.place = c.from.ensures ∙ ap (λ v. v.size) c.command_from-command.ensures in
    walk_left (bytes_of c.self.inside.image) c.self.inside.place c.self.inside.left c.from.result (omega arith) size c.self.invariant

pub returns-clause-steps : goal.returns-clause-steps
returns-clause-steps c =
    sym c.self.view_is ∙ yields_first (bytes_of c.self.inside.image) c.self.inside.place c.self.inside.left c.from.result _ (omega arith) c.command_from-command.ensures c.from.ensures

pub returns-clause-goes : goal.returns-clause-goes
returns-clause-goes c = nearer_end _ _ _ _ (returns-clause-steps c)
