use Rattle.std.proofs.Common.{◌≡◌, ◌-◌}
use Rattle.macho_spans.specs.Spans.{RoseBy}
use Rattle.macho_spans.proofs.SortedSpans.{IsHalved}
use Rattle.macho_spans.proofs.spans.search.count_starts_by.Given as goal

abbrev pub invariant-loop-low : goal.invariant-loop-low
invariant-loop-low l = IsHalved l.fn.held.pairs.items l.place l.low l.high l.held.probes.call × (l.held.pairs ≡ l.fn.held.pairs) × (l.held.tests.call ≡ 0) × (l.held.tests.all ≡ l.fn.held.tests.all) × RoseBy l.fn.held.probes.all l.held.probes.call l.held.probes.all

abbrev pub decreases-loop-low : goal.decreases-loop-low
decreases-loop-low l = l.high - l.low
