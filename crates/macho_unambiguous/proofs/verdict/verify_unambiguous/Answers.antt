use Rattle.std.proofs.Common.{List, ℕ, subst, sym, arith}
use Rattle.macho_linked.specs.Rules.{BreaksImage as LinkedImage, IsLinkedUnbroken}
use Rattle.macho_rules.specs.Profile.{NoFileRule}
use Rattle.macho_rules.proofs.Profiles.{images_keep}
use Rattle.macho_rules.proofs.Verdicts.{passed_on}
use Rattle.macho_unambiguous.specs.Rules.{IsUnambiguousUnbroken}
use Rattle.macho_unambiguous.specs.Verdict.{IsUnambiguousRefusal}
use Rattle.macho_unambiguous.proofs.Unambiguous.{file_unambiguous}
use Rattle.macho_unambiguous.proofs.Verdicts.{IsUnambiguousBreak, linked_refused, unambiguous_refused}
use Rattle.macho_unambiguous.proofs.verdict.verify_unambiguous.Goals as goal

pub returns-in_err-verified-clause-refused : goal.returns-in_err-verified-clause-refused
returns-in_err-verified-clause-refused c =
    passed_on (IsUnambiguousRefusal c.args.file.now) c.from_residual.result c.in_err-verified.field-0.0 c.from_residual.ensures.1
    (linked_refused c.args.file.now c.in_err-verified.field-0.0 c.in_err-verified.ensures.refused)

pub returns-in_err-check-clause-refused : goal.returns-in_err-check-clause-refused
returns-in_err-check-clause-refused c =
    let file = c.args.file.now in
    let r = c.in_err-check.field-0.0 in
    passed_on (IsUnambiguousRefusal file) c.from_residual-in_err-check.result r c.from_residual-in_err-check.ensures.1
    (unambiguous_refused file c.in_ok-verified.ensures.accepted r
    (subst (λ (bytes : List ℕ). IsUnambiguousBreak bytes r) c.in_ok-verified.ensures.file c.in_err-check.ensures.refused))

pub check-requires : goal.check-requires
check-requires c = images_keep c.in_ok-verified.verified NoFileRule LinkedImage (subst IsLinkedUnbroken (sym c.in_ok-verified.ensures.file) c.in_ok-verified.ensures.accepted.linked)

pub returns-clause-accepted : goal.returns-clause-accepted
returns-clause-accepted c =
    let file = c.args.file.now in
    let kept = c.in_ok-verified.ensures.accepted in
    let unbroken = subst IsUnambiguousUnbroken c.in_ok-verified.ensures.file c.in_ok-check.ensures.unbroken in record {
      linked = kept;
      unbroken = unbroken;
      unambiguous = file_unambiguous file (λ k. let f = c.type_inv.file k in omega (arith, f.fits)) kept.layout kept.strict kept.linked unbroken;
    }
