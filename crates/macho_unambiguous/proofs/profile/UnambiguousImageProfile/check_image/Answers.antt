use Rattle.macho_rules.proofs.Profiles.{refused_inside}
use Rattle.macho_unambiguous.specs.Rules.{BreaksImage}
use Rattle.macho_unambiguous.specs.Verdict.{TakesMemory}
use Rattle.macho_unambiguous.proofs.InImage.{place_inside}
use Rattle.macho_unambiguous.proofs.profile.UnambiguousImageProfile.check_image.Goals as goal

pub returns-clause-inside : goal.returns-clause-inside
returns-clause-inside c =
    let image = c.args.image.now in
    refused_inside (BreaksImage image) (TakesMemory image) image (place_inside image c.requires.layout c.requires.before) c.check_image.result c.check_image.ensures.refused
