use Rattle.std.proofs.Common.{ap, ◌∙◌, arith}
use Rattle.sha2.specs.Sha256.{rounds, schedule}
use Rattle.macho_lanes.proofs.block256.first_four_steps.Goals as goal

pub returns : goal.returns
returns c j b h lt window held =
    let after = rounds h (schedule b 48) in
    let s1 = c.first_step-v.ensures j b h lt window held in
    let s2 = c.first_step-v-2.ensures j b h lt window s1 in
    let s3 = c.first_step-v-3.ensures j b h lt window (s2 ∙ ap after (omega arith)) in
    c.first_step.ensures j b h lt window (s3 ∙ ap after (omega arith)) ∙ ap after (omega arith)
