use Rattle.std.proofs.Common.{List, ℕ, sym, subst}
use Rattle.macho_linked.specs.Rules.{BreaksImage as LinkedImage, IsLinkedUnbroken}
use Rattle.macho_rules.specs.Profile.{NoFileRule, IsRefusalOfImages}
use Rattle.macho_rules.proofs.Profiles.{images_keep}
use Rattle.macho_rules.proofs.Verdicts.{passed_on}
use Rattle.macho_sealed.specs.Rules.{BreaksImage, IsSealedUnbroken}
use Rattle.macho_sealed.specs.Verdict.{IsSealedRefusal, TakesMemory}
use Rattle.macho_sealed.proofs.Sealed.{file_sealed}
use Rattle.macho_sealed.proofs.Verdicts.{unambiguous_refused, sealed_refused}
use Rattle.macho_sealed.proofs.verdict.verify_sealed.Goals as goal

pub returns-in_err-verified-clause-refused : goal.returns-in_err-verified-clause-refused
returns-in_err-verified-clause-refused c =
    passed_on (IsSealedRefusal c.args.file.now) c.from_residual.result c.in_err-verified.field-0.0 c.from_residual.ensures.1
    (unambiguous_refused c.args.file.now c.in_err-verified.field-0.0 c.in_err-verified.ensures.refused)

pub returns-in_err-check_images-clause-refused : goal.returns-in_err-check_images-clause-refused
returns-in_err-check_images-clause-refused c =
    let file = c.args.file.now in
    let r = c.in_err-check_images.field-0.0 in
    let kept = c.in_ok-verified.ensures.accepted in
    passed_on (IsSealedRefusal file) c.from_residual-in_err-check_images.result r c.from_residual-in_err-check_images.ensures.1
    (sealed_refused file (record { layout = kept.linked.layout; strict = kept.linked.strict; linked = kept.linked.linked; unambiguous = kept.unbroken }) r
    (subst (λ (bytes : List ℕ). IsRefusalOfImages BreaksImage bytes TakesMemory r) c.in_ok-verified.ensures.file c.in_err-check_images.ensures.refused))

pub check_images-requires : goal.check_images-requires
check_images-requires c = images_keep c.in_ok-verified.verified NoFileRule LinkedImage (subst IsLinkedUnbroken (sym c.in_ok-verified.ensures.file) c.in_ok-verified.ensures.accepted.linked.linked)

pub returns-clause-accepted : goal.returns-clause-accepted
returns-clause-accepted c =
    let kept = c.in_ok-verified.ensures.accepted in
    let sealed = subst IsSealedUnbroken c.in_ok-verified.ensures.file c.in_ok-check_images.ensures.unbroken in record {
      readers = kept;
      unbroken = sealed;
      sealed = file_sealed c.args.file.now kept.linked.layout kept.linked.linked sealed;
    }
