use Rattle.std.proofs.Common.{◌≡◌, ◌+◌, ◌-◌, length, subst, arith}
use Rattle.macho_spans.specs.SearchSteps.{PairBelow}
use Rattle.macho_spans.proofs.overlap.least_sharing.Goals as goal

pub returns-clause-share : goal.returns-clause-share
returns-clause-share c =
    let last : c.loop-high.high ≡ c.loop-high.high - 1 + 1 = omega (arith, c.loop-high.invariant.order) in
    subst (PairBelow c.args.items.now (length c.args.items.now)) last c.loop-high.invariant.share

pub returns-clause-apart : goal.returns-clause-apart
returns-clause-apart c =
    let last : c.loop-high.low ≡ c.loop-high.high - 1 = omega (arith, c.loop-high.invariant.order, c.loop-high-test.false) in
    subst (λ count. ¬ PairBelow c.args.items.now (length c.args.items.now) count) last c.loop-high.invariant.apart
