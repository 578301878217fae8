use Rattle.macho_rules.proofs.Verdicts.{passed_on}
use Rattle.macho_rules.specs.Profile.{RefusesInside}
use Rattle.macho_rules.specs.Verdict.{IsRefusalOf}
use Rattle.macho_rules.specs.declared.refusal.Refusal.TheVariants as refusal
use Rattle.macho_sealed.specs.Rules.{BreaksImage}
use Rattle.macho_sealed.specs.Verdict.{TakesMemory}
use Rattle.macho_sealed.proofs.Places.{place_inside}
use Rattle.macho_sealed.proofs.profile.SealedImageProfile.check_image.Goals as goal

pub returns-in_err-check_image-clause-refused : goal.returns-in_err-check_image-clause-refused
returns-in_err-check_image-clause-refused c =
    let image = c.args.image.now in
    passed_on (IsRefusalOf (BreaksImage image) (TakesMemory image)) c.from_residual.result (refusal.Broken c.in_err-check_image.field-0.0) c.from_residual.ensures.1 c.in_err-check_image.ensures

pub returns-in_err-check_image-clause-inside : goal.returns-in_err-check_image-clause-inside
returns-in_err-check_image-clause-inside c =
    let image = c.args.image.now in
    let b = c.in_err-check_image.field-0.0 in
    passed_on (RefusesInside image) c.from_residual.result (refusal.Broken b) c.from_residual.ensures.1 (place_inside image c.requires.layout c.requires.before b.rule b.place c.in_err-check_image.ensures.0)
