use Rattle.std.proofs.Common.{◌≡◌, ◌+◌, ◌*◌, ap, ◌∙◌, arith}
use Rattle.sha2.specs.Sha256.{word_at}
use Rattle.macho_lanes.proofs.LaneWise.{below_four}
use Rattle.macho_lanes.proofs.block256.words_at.Goals as goal

pub returns : goal.returns
returns c =
    let word = word_at c.args.bytes.now in
    let e0 : c.args.at ≡ c.args.at + 0 * c.args.stride = omega arith in
    let e1 : c.args.at + c.args.stride ≡ c.args.at + 1 * c.args.stride = omega arith in
    below_four _ (c.word_at.ensures ∙ ap word e0) (c.word_at-2.ensures ∙ ap word e1) c.word_at-3.ensures c.word_at-4.ensures
