use Rattle.macho_fields.specs.Bytes.{bytes_of}
use Rattle.macho_image.specs.Views.{HoldsSection}
use Rattle.macho_image.proofs.WithOneCmd.{rest_has}
use Rattle.macho_image.proofs.section.SectionsIterator.next.Goals as goal

pub invariant_of-self-2 : goal.invariant_of-self-2
invariant_of-self-2 c = rest_has (HoldsSection (bytes_of c.self.inside.image) c.self.inside.segment) _ _ _ c.in_ok-place.ensures.steps c.self.invariant
