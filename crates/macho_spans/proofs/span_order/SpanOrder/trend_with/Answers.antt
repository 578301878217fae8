use Rattle.std.proofs.Common.{arith, subst}
use Rattle.macho_spans.specs.SpanOrder.{IsTrend}
use Rattle.macho_spans.proofs.SpanOrders.{ascending_apart, descending_apart, first_alone, ascends_on, descends_on, turns_down, turns_up, last_shares, now_sharing, still_sharing, still_unordered}
use Rattle.macho_spans.proofs.span_order.SpanOrder.trend_with.Goals as goal

pub returns-in-Empty : goal.returns-in-Empty
returns-in-Empty c = λ spans tags same is. first_alone spans c.args.span (subst (IsTrend spans tags c.args.self.now.last) c.in-Empty.is is) c.requires

pub returns-in-Single : goal.returns-in-Single
returns-in-Single c = λ spans tags same is.
    ascends_on spans c.args.span c.args.self.now.last c.requires (subst (IsTrend spans tags c.args.self.now.last) c.in-Single.is is).0 (omega arith)

pub returns-in-Single-2 : goal.returns-in-Single-2
returns-in-Single-2 c = λ spans tags same is.
    descends_on spans c.args.span c.args.self.now.last c.requires (subst (IsTrend spans tags c.args.self.now.last) c.in-Single-2.is is).1 (omega arith)

pub returns-in-Ascending : goal.returns-in-Ascending
returns-in-Ascending c = λ spans tags same is.
    ascends_on spans c.args.span c.args.self.now.last c.requires (subst (IsTrend spans tags c.args.self.now.last) c.in-Ascending.is is).0 (omega arith)

pub returns-in-Ascending-2 : goal.returns-in-Ascending-2
returns-in-Ascending-2 c = λ spans tags same is.
    let (up, not) = subst (IsTrend spans tags c.args.self.now.last) c.in-Ascending-2.is is in
    turns_down spans c.args.span c.args.self.now.last c.requires up not (omega arith)

pub returns-in-Descending : goal.returns-in-Descending
returns-in-Descending c = λ spans tags same is.
    descends_on spans c.args.span c.args.self.now.last c.requires (subst (IsTrend spans tags c.args.self.now.last) c.in-Descending.is is).0 (omega arith)

pub returns-in-Descending-2 : goal.returns-in-Descending-2
returns-in-Descending-2 c = λ spans tags same is.
    let (down, not) = subst (IsTrend spans tags c.args.self.now.last) c.in-Descending-2.is is in
    turns_up spans c.args.span c.args.self.now.last c.requires down not (omega arith)

pub returns-in-Sharing : goal.returns-in-Sharing
returns-in-Sharing c = λ spans tags same is.
    still_sharing spans c.args.span tags c.args.tag c.in-Sharing.first (subst (IsTrend spans tags c.args.self.now.last) c.in-Sharing.is is)

pub returns-in-Unordered : goal.returns-in-Unordered
returns-in-Unordered c = λ spans tags same is. still_unordered spans c.args.span (subst (IsTrend spans tags c.args.self.now.last) c.in-Unordered.is is)

pub returns-in-Single-3 : goal.returns-in-Single-3
returns-in-Single-3 c = λ spans tags same is.
    let (up, down) = subst (IsTrend spans tags c.args.self.now.last) c.in-Single-3.is is in
    now_sharing spans c.args.span tags c.args.tag same
    (last_shares spans c.args.span c.args.self.now.last c.requires up.filled up.among (λ above. omega (arith, above)) (λ below. omega (arith, below)) (ascending_apart spans up.each))

pub returns-in-Ascending-3 : goal.returns-in-Ascending-3
returns-in-Ascending-3 c = λ spans tags same is.
    let (up, not) = subst (IsTrend spans tags c.args.self.now.last) c.in-Ascending-3.is is in
    now_sharing spans c.args.span tags c.args.tag same
    (last_shares spans c.args.span c.args.self.now.last c.requires up.filled up.among (λ above. omega (arith, above)) (λ below. omega (arith, below)) (ascending_apart spans up.each))

pub returns-in-Descending-3 : goal.returns-in-Descending-3
returns-in-Descending-3 c = λ spans tags same is.
    let (down, not) = subst (IsTrend spans tags c.args.self.now.last) c.in-Descending-3.is is in
    now_sharing spans c.args.span tags c.args.tag same
    (last_shares spans c.args.span c.args.self.now.last c.requires down.filled down.among (λ above. omega (arith, above)) (λ below. omega (arith, below)) (descending_apart spans down.each))
