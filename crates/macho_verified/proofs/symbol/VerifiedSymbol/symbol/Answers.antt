use Rattle.std.proofs.Common.{◌≡◌, subst}
use Rattle.macho_fields.specs.Bytes.{bytes_of}
use Rattle.macho_image.specs.Symbol.{symbol_at}
use Rattle.macho_verified.specs.Image.{SymbolView}
use Rattle.macho_verified.proofs.Accepted.{symbol_read}
use Rattle.macho_verified.proofs.symbol.VerifiedSymbol.symbol.Goals as goal

pub returns : goal.returns
returns c =
    subst (λ (v : SymbolView). c.self.inside.symbol ≡ symbol_at v.image v.place) c.self.view_is
    (symbol_read (bytes_of c.self.inside.image) c.self.inside.strings c.self.inside.symbol c.self.invariant)
