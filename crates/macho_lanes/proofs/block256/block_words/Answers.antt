use Rattle.std.proofs.Common.{rules, ◌≡◌, ◌+◌, ◌*◌, inl, inr, length, ap, sym, ◌∙◌, arith}
use Rattle.std.proofs.lemmas.List.{get_or-set_same, get_or-set_other}
use Rattle.std.proofs.lemmas.Bool.{cases_lt}
use Rattle.sha2.specs.Sha256.{word_at}
use Rattle.macho_lanes.specs.Lanes.{lane}
use Rattle.macho_lanes.proofs.LaneWords.{lane-slice_set, length-lane, word_at-block}
use Rattle.macho_lanes.proofs.block256.block_words.Goals as goal

pub words-preserved : goal.words-preserved
words-preserved c = (
  search rules,
  λ j k lt below.
      let words = c.words.words in
      let i = c.words.i in
      let size : length (lane j words) ≡ 16 = length-lane words j ∙ c.words.invariant.0 in
      rw (lane-slice_set words j i c.words_at.result) (elim (cases_lt k i) [
        | inl before ↦ get_or-set_other (lane j words) i k _ 0 (omega arith) ∙ c.words.invariant.1 j k lt before
        | inr after ↦
            let same : i ≡ k = omega arith in
            let place : c.args.at + 4 * i + j * c.args.stride ≡ c.args.at + j * c.args.stride + 4 * i = omega arith in
            rw (← same) (get_or-set_same (lane j words) i _ 0 (omega arith) ∙ c.words_at.ensures j lt ∙ ap (word_at c.args.bytes.now) place)
      ]),
)

pub returns : goal.returns
returns c j lt = (
  length-lane c.words.words j ∙ c.words.invariant.0,
  λ k below. c.words.invariant.1 j k lt (omega arith) ∙ sym (word_at-block c.args.bytes.now (c.args.at + j * c.args.stride) k below),
)
