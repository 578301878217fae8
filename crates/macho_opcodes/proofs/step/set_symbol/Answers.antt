use Rattle.std.proofs.Common.{ℕ, ◌+◌, ◌∙◌, sym, subst}
use Rattle.std.proofs.lemmas.Bool.{false≢true}
use Rattle.macho_fields.specs.Bytes.{bytes_of}
use Rattle.macho_fields.specs.Field.{HasZero}
use Rattle.macho_opcodes.proofs.Operands.{name_ends, name_fails}
use Rattle.macho_opcodes.proofs.step.set_symbol.Goals as goal

pub returns-in_err-zero : goal.returns-in_err-zero
returns-in_err-zero c =
    let bytes = bytes_of c.args.stream in
    c.from_residual.ensures
    ∙ sym (name_fails c.args.flags bytes c.args.name
    (λ has. false≢true (c.in_err-zero.ensures.found.1 (subst (λ (n : ℕ). HasZero bytes c.args.name (c.args.name + n)) (sym c.len.ensures.count) has))))

pub returns : goal.returns
returns c =
    sym (name_ends c.args.flags (bytes_of c.args.stream) c.args.name c.in_ok-zero.zero
    c.in_ok-zero.ensures.zero.0.0 c.in_ok-zero.ensures.zero.1 c.in_ok-zero.ensures.first)
