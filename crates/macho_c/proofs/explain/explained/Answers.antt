use Rattle.std.proofs.Common.{◌∙◌, sym, subst}
use Rattle.macho_fields.proofs.Numbers.{number_determines_rule}
use Rattle.macho_explain.specs.Explained.{IsUnexplained}
use Rattle.macho_c.proofs.explain.explained.Goals as goal

pub returns-in_err-found : goal.returns-in_err-found
returns-in_err-found c =
    rw c.from_residual-in_err-found.ensures (λ r same.
    subst (λ one. IsUnexplained one c.args.file.now c.args.verdict.now.place)
    (number_determines_rule c.in_ok-rule.rule r (c.in_ok-rule.ensures.some ∙ sym same)) c.in_err-found.ensures)
