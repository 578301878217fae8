use Rattle.std.proofs.Common.{arith}
use Rattle.macho_rules.specs.Profile.{IsRefusalOfImages}
use Rattle.macho_rules.proofs.Profiles.{no_image_kept, image_kept, image_refused, images_kept}
use Rattle.macho_rules.proofs.Verdicts.{passed_on}
use Rattle.macho_rules.proofs.profile.check_images.Goals as goal

pub loop-index-init : goal.loop-index-init
loop-index-init g c = no_image_kept g.P.ProfileRules.breaks c.args.verified.now

pub returns-in_err-check_slice-clause-refused : goal.returns-in_err-check_slice-clause-refused
returns-in_err-check_slice-clause-refused g c =
    let r = c.in_err-check_slice.field-0.0 in
    passed_on (IsRefusalOfImages g.P.ProfileRules.breaks c.args.verified.now g.P.ImageProfile.takes_memory) c.from_residual.result r c.from_residual.ensures.1
    (image_refused g.P.ProfileRules.breaks c.args.verified.now g.P.ImageProfile.takes_memory c.loop-index.index c.loop-index.invariant r c.in_err-check_slice.ensures.refused)

pub loop-index-preserved : goal.loop-index-preserved
loop-index-preserved g c = image_kept g.P.ProfileRules.breaks c.args.verified.now c.loop-index.index c.loop-index.invariant c.in_ok-check_slice.ensures.unbroken

pub returns-clause-unbroken : goal.returns-clause-unbroken
returns-clause-unbroken g c = images_kept g.P.ProfileRules.breaks c.args.verified.now c.loop-index.index (omega (arith, c.slice_count-index-end.ensures)) c.loop-index.invariant
