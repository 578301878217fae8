use Rattle.std.proofs.Common.{List, ℕ, sym, subst}
use Rattle.macho_rules.proofs.Verdicts.{passed_on}
use Rattle.macho_strict.specs.First.{IsStrictlyUnbroken}
use Rattle.macho_strict.specs.Rules.{BreaksStrictFile, BreaksStrictImage}
use Rattle.macho_rules.specs.Profile.{IsRefusalOfImages}
use Rattle.macho_rules.proofs.Profiles.{images_keep}
use Rattle.macho_linked.specs.Rules.{BreaksImage, IsLinkedUnbroken}
use Rattle.macho_linked.specs.Verdict.{IsLinkedRefusal, TakesMemory}
use Rattle.macho_linked.proofs.Linked.{file_linked}
use Rattle.macho_linked.proofs.Verdicts.{strict_refused, linked_refused}
use Rattle.macho_linked.proofs.verdict.verify_linked.Goals as goal

pub returns-in_err-verified-clause-refused : goal.returns-in_err-verified-clause-refused
returns-in_err-verified-clause-refused c =
    passed_on (IsLinkedRefusal c.args.file.now) c.from_residual.result c.in_err-verified.field-0.0 c.from_residual.ensures.1
    (strict_refused c.args.file.now c.in_err-verified.field-0.0 c.in_err-verified.ensures.refused)

pub returns-in_err-check_images-clause-refused : goal.returns-in_err-check_images-clause-refused
returns-in_err-check_images-clause-refused c =
    let file = c.args.file.now in
    let r = c.in_err-check_images.field-0.0 in
    passed_on (IsLinkedRefusal file) c.from_residual-in_err-check_images.result r c.from_residual-in_err-check_images.ensures.1
    (linked_refused file c.in_ok-verified.ensures.accepted c.in_ok-verified.ensures.strictly r
    (subst (λ (bytes : List ℕ). IsRefusalOfImages BreaksImage bytes TakesMemory r) c.in_ok-verified.ensures.file c.in_err-check_images.ensures.refused))

pub check_images-requires : goal.check_images-requires
check_images-requires c = images_keep c.in_ok-verified.verified BreaksStrictFile BreaksStrictImage (subst IsStrictlyUnbroken (sym c.in_ok-verified.ensures.file) c.in_ok-verified.ensures.strictly)

pub returns-clause-accepted : goal.returns-clause-accepted
returns-clause-accepted c =
    let file = c.args.file.now in
    let kept = c.in_ok-verified.ensures in
    let linked = subst IsLinkedUnbroken kept.file c.in_ok-check_images.ensures.unbroken in record {
      layout = kept.accepted;
      strict = kept.strictly;
      linked = linked;
      sound = kept.sound;
      accounted = kept.accounted;
      safe = file_linked file kept.accepted linked;
    }
