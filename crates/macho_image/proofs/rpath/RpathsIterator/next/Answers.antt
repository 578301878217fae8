use Rattle.macho_fields.specs.Bytes.{bytes_of}
use Rattle.macho_image.specs.Views.{HoldsName}
use Rattle.macho_image.proofs.WithOneCmd.{first_has, rest_has}
use Rattle.macho_image.proofs.rpath.RpathsIterator.next.Goals as goal

pub name_of-requires : goal.name_of-requires
name_of-requires c = first_has (λ v. HoldsName (bytes_of c.self.inside.image) v.place) _ _ _ c.in_ok-command.ensures c.self.invariant

pub invariant_of-self-2 : goal.invariant_of-self-2
invariant_of-self-2 c = rest_has (λ v. HoldsName (bytes_of c.self.inside.image) v.place) _ _ _ c.in_ok-command.ensures c.self.invariant
