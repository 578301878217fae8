use Rattle.std.proofs.Common.{◌≡◌, subst}
use Rattle.macho_image.specs.Symbol.{indirect_at}
use Rattle.macho_verified.specs.Image.{IndirectView}
use Rattle.macho_verified.proofs.Counted.{entry_read}
use Rattle.macho_verified.proofs.indirect.VerifiedIndirect.indirect.Goals as goal

pub returns : goal.returns
returns c =
    subst (λ (v : IndirectView). c.self.inside.entry ≡ indirect_at v.image v.place) c.self.view_is (entry_read c.self.inside.image.now c.self.inside.entry c.self.invariant)
