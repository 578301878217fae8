use Rattle.macho_fields.specs.Bytes.{bytes_of}
use Rattle.macho_verified.specs.Accepted.{IsVerifiedSymbol}
use Rattle.macho_image.proofs.WithOneCmd.{rest_has}
use Rattle.macho_verified.proofs.symbol.VerifiedSymbolsIterator.next.Goals as goal

pub invariant_of-self-2 : goal.invariant_of-self-2
invariant_of-self-2 c = rest_has (IsVerifiedSymbol (bytes_of c.self.inside.image) c.self.inside.strings) _ _ _ c.in_ok-symbol.ensures.steps c.self.invariant
