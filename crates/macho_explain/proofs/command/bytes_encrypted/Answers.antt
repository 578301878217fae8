use Rattle.std.proofs.Common.{inl, inr}
use Rattle.macho_explain.proofs.command.bytes_encrypted.Goals as goal

pub returns-in_err-encryption : goal.returns-in_err-encryption
returns-in_err-encryption c =
    rw c.from_residual-in_err-encryption.ensures (λ has. elim has [
      | inl segment ↦ c.in_err-encryption.ensures (inl (segment.1, segment.2))
      | inr info ↦ c.in_err-encryption.ensures (inr info.1)
    ])

pub returns : goal.returns
returns c = rw c.shows.ensures (c.in_ok-at.ensures.0, c.in_ok-encryption.ensures)
