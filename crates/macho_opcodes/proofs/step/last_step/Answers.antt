use Rattle.std.proofs.Common.{ℕ, ◌+◌, sym, subst}
use Rattle.std.proofs.lemmas.Bool.{false≢true}
use Rattle.macho_fields.specs.Bytes.{bytes_of}
use Rattle.macho_fields.specs.NonZero.{HasNonZero}
use Rattle.macho_opcodes.proofs.Operands.{last_ends, last_fails}
use Rattle.macho_opcodes.proofs.step.last_step.Goals as goal

pub returns-in-None : goal.returns-in-None
returns-in-None c =
    let bytes = bytes_of c.args.stream in
    rw c.len-end.ensures.count (sym (last_ends bytes c.args.next
    (λ has. false≢true (c.in-None.ensures.found.1 (subst (λ (n : ℕ). HasNonZero bytes c.args.next (c.args.next + n)) (sym c.len-end.ensures.count) has)))))

pub returns-in-Some : goal.returns-in-Some
returns-in-Some c =
    sym (last_fails (bytes_of c.args.stream) c.args.next c.in-Some.field-0 c.in-Some.ensures.nonzero.0.0 c.in-Some.ensures.nonzero.1)
