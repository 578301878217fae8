use Rattle.std.proofs.Common.{List, ℕ, subst}
use Rattle.macho_rules.proofs.Verdicts.{passed_on}
use Rattle.macho_strict.specs.First.{IsStrictlyUnbroken}
use Rattle.macho_strict.specs.Verdict.{IsStrictRefusal}
use Rattle.macho_strict.proofs.Accounted.{unbroken_is_accounted}
use Rattle.macho_strict.proofs.Verdicts.{IsStrictBreak, layout_refused, strictly_refused}
use Rattle.macho_strict.proofs.verdict.verify_strictly.Goals as goal

pub returns-in_err-verified-clause-refused : goal.returns-in_err-verified-clause-refused
returns-in_err-verified-clause-refused c =
    passed_on (IsStrictRefusal c.args.file.now) c.from_residual.result c.in_err-verified.field-0.0 c.from_residual.ensures.1
    (layout_refused c.args.file.now c.in_err-verified.field-0.0 c.in_err-verified.ensures.refused)

pub returns-in_err-check_strictly-clause-refused : goal.returns-in_err-check_strictly-clause-refused
returns-in_err-check_strictly-clause-refused c =
    let file = c.args.file.now in
    passed_on (IsStrictRefusal file) c.from_residual-in_err-check_strictly.result c.in_err-check_strictly.field-0.0 c.from_residual-in_err-check_strictly.ensures.1
    (strictly_refused file c.in_ok-verified.ensures.accepted c.in_err-check_strictly.field-0.0
    (subst (λ (bytes : List ℕ). IsStrictBreak bytes c.in_err-check_strictly.field-0.0) c.in_ok-verified.ensures.file c.in_err-check_strictly.ensures.refused))

pub returns-clause-accounted : goal.returns-clause-accounted
returns-clause-accounted c =
    unbroken_is_accounted c.args.file.now c.in_ok-verified.ensures.accepted (subst IsStrictlyUnbroken c.in_ok-verified.ensures.file c.in_ok-check_strictly.ensures.unbroken)
