use Rattle.std.proofs.Common.{◌+◌, ◌≤◌, length}
use Rattle.macho_fields.specs.Bytes.{bytes_of}
use Rattle.macho_image.proofs.WithOneCmd.{first_has, rest_has}
use Rattle.macho_image.proofs.build.BuildsIterator.next.Goals as goal

pub build_from-requires : goal.build_from-requires
build_from-requires c = first_has (λ v. v.place + 24 ≤ length (bytes_of c.self.inside.image)) _ _ _ c.in_ok-command.ensures c.self.invariant

pub invariant_of-self-2 : goal.invariant_of-self-2
invariant_of-self-2 c = rest_has (λ v. v.place + 24 ≤ length (bytes_of c.self.inside.image)) _ _ _ c.in_ok-command.ensures c.self.invariant
