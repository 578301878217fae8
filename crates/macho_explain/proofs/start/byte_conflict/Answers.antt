use Rattle.std.proofs.Common.{◌≡◌, inl, inr, refl, subst}
use Rattle.macho_fields.specs.Bytes.{bytes_of}
use Rattle.macho_explain.specs.Readers.{IsDataUpTo, IsNotAtOffset}
use Rattle.macho_explain.proofs.start.byte_conflict.Goals as goal

pub returns-in_default : goal.returns-in_default
returns-in_default c = rw c.alone.ensures (inr ((λ opens byte is. absurd (c.in_default.ensures byte is)), refl))

pub returns-in-Some-other_byte : goal.returns-in-Some-other_byte
returns-in-Some-other_byte c = inl (c.in-Some.place, (c.in-Some.ensures c.in-Some.place).0 refl, c.in-Some-other_byte.ensures)

pub returns-in-None : goal.returns-in-None
returns-in-None c =
    let image = bytes_of c.args.sliced.now.held.bytes in
    let place = c.args.sliced.now.place in
    rw c.of.ensures (inr (
      (λ opens byte is.
          let same : c.in-Some.place ≡ byte = (c.in-Some.ensures byte).1 is in
          (subst (λ b. ¬ IsNotAtOffset image place b) same c.in-None.ensures.0, λ end. subst (λ b. ¬ IsDataUpTo image b end) same (c.in-None.ensures.1 opens end))),
      refl,
    ))
