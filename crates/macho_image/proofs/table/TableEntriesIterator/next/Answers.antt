use Rattle.std.proofs.Common.{◌+◌, ◌≤◌, length}
use Rattle.macho_fields.specs.Bytes.{bytes_of}
use Rattle.macho_image.proofs.WithOneCmd.{rest_has}
use Rattle.macho_image.proofs.table.TableEntriesIterator.next.Goals as goal

pub invariant_of-self-2 : goal.invariant_of-self-2
invariant_of-self-2 g c = rest_has (λ place. place + g.E.TableEntry.SIZE ≤ length (bytes_of c.self.inside.image)) _ _ _ c.in_ok-place.ensures.steps c.self.invariant
