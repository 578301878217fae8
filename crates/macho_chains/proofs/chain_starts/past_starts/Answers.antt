use Rattle.std.proofs.Common.{sym, ◌∙◌, arith}
use Rattle.std.proofs.lemmas.Bool.{false≢true}
use Rattle.macho_fields.specs.Bytes.{bytes_of}
use Rattle.macho_chains.proofs.ChainStarts.{starts_unnamed, reach_same, good_unnamed, starts_good, starts_not_own, starts_early}
use Rattle.macho_chains.proofs.chain_starts.past_starts.Goals as goal
use Rattle.macho_chains.proofs.chain_starts.past_starts.Goals.{else-reach-from-via-then-reach-from+else-are_of, else-reach-from-via-else-reach-from}

pub returns-then-seg_info_offset-eq0 : goal.returns-then-seg_info_offset-eq0
returns-then-seg_info_offset-eq0 c =
    let chains = bytes_of c.args.chains.bytes in
    let none = sym c.seg_info_offset.ensures ∙ c.if-seg_info_offset-eq0.true in (
      good_unnamed chains c.args.chains.header c.args.segment.now.image c.args.index none,
      reach_same chains c.args.chains.header c.args.index c.args.reach (starts_unnamed chains c.args.chains.header c.args.index none) c.requires.reach,
    )

pub returns-then-are_of : goal.returns-then-are_of
returns-then-are_of c =
    let chains = bytes_of c.args.chains.bytes in
    rw c.end.ensures
    (starts_good chains c.args.chains.header c.args.segment.now.image c.args.index c.args.base c.args.segment.now.place c.args.reach c.requires.base c.requires.segment c.requires.reach
    c.in_ok-starts.starts (sym c.in_ok-starts.ensures) (c.are_of.ensures.0 c.if-are_of.true) (omega (arith, c.from.ensures, c.if-reach-from.true)))

pub returns-else-reach-from : goal.returns-else-reach-from
returns-else-reach-from c =
    let chains = bytes_of c.args.chains.bytes in
    let image = c.args.segment.now.image in
    elim c.else-reach-from.branch [
      | else-reach-from-via-then-reach-from+else-are_of w ↦
          starts_not_own chains c.args.chains.header image c.args.index c.args.base c.args.segment.now.place c.args.reach c.requires.base c.requires.segment c.requires.reach
          c.in_ok-starts.starts (sym c.in_ok-starts.ensures) (λ none. c.if-seg_info_offset-eq0.false (c.seg_info_offset.ensures ∙ none)) (λ are. false≢true (sym w.if-are_of.false ∙ w.are_of.ensures.1 are))
      | else-reach-from-via-else-reach-from w ↦
          starts_early chains c.args.chains.header image c.args.index c.args.base c.args.segment.now.place c.args.reach c.requires.base c.requires.segment c.requires.reach
          c.in_ok-starts.starts (sym c.in_ok-starts.ensures) (λ none. c.if-seg_info_offset-eq0.false (c.seg_info_offset.ensures ∙ none)) (omega (arith, c.from.ensures, w.if-reach-from.false))
    ]
