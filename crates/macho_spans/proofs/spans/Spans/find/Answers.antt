use Rattle.std.proofs.Common.{◌≡◌, ap, rules, arith}
use Rattle.macho_spans.specs.SearchSteps.{StartBy}
use Rattle.macho_spans.specs.Spans.{SpansView}
use Rattle.macho_spans.proofs.SortedSpans.{found_before}
use Rattle.macho_spans.proofs.spans.Spans.find.Goals as goal

pub returns-clause-found : goal.returns-clause-found
returns-clause-found c =
    let held = c.self.inside.held in
    let same : c.count_starts_by-next.new.held.pairs ≡ held.pairs = search rules in
    let count : StartBy held.pairs.items c.args.place c.count_starts_by-next.result = search rules in
    rw (← ap (λ (view : SpansView). view.pairs) c.self.view_is)
    (found_before held.pairs.items c.self.invariant c.args.place c.count_starts_by-next.result count c.holding.result c.in_ok-before.before (omega (arith, c.in_ok-before.ensures))
    (λ d. rw same at (c.holding.ensures.pair d)))

pub returns-in_err-before-clause-all_probes : goal.returns-in_err-before-clause-all_probes
returns-in_err-before-clause-all_probes c = search rules

pub returns-clause-all_probes : goal.returns-clause-all_probes
returns-clause-all_probes c = search rules
