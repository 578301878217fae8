use Rattle.macho_fields.specs.Bytes.{bytes_of}
use Rattle.macho_image.specs.Views.{HoldsSegment}
use Rattle.macho_image.proofs.WithOneCmd.{first_has, rest_has}
use Rattle.macho_image.proofs.segment.SegmentsIterator.next.Goals as goal

pub invariant_of-result : goal.invariant_of-result
invariant_of-result c = first_has (λ v. HoldsSegment (bytes_of c.self.inside.image) v.place) _ _ _ c.in_ok-command.ensures c.self.invariant

pub invariant_of-self-2 : goal.invariant_of-self-2
invariant_of-self-2 c = rest_has (λ v. HoldsSegment (bytes_of c.self.inside.image) v.place) _ _ _ c.in_ok-command.ensures c.self.invariant
