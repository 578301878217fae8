use Rattle.std.proofs.Common.{◌≡◌, ℕ, ◌+◌, List, length, sym, ◌∙◌, subst}
use Rattle.std.proofs.lemmas.Bool.{both_ways}
use Rattle.macho_spans.specs.Overlap.{SharesEarlier, IsLeastSharing}
use Rattle.macho_spans.specs.SearchSteps.{PairBelow}
use Rattle.macho_spans.specs.declared.overlap.Numbered.{Numbered}
use Rattle.macho_spans.specs.declared.span.Span.{Span}
use Rattle.macho_spans.proofs.Overlaps.{least_from_pairs, none_from_pairs}
use Rattle.macho_spans.proofs.overlap.SpansByStart.least_overlap.Goals as goal

pub returns-then-shares_below : goal.returns-then-shares_below
returns-then-shares_below c = λ spans (added, same, numbered, moved).
    let items = c.args.self.now in
    let count = c.least_sharing.result in
    let held = c.deref-then-shares_below.ensures.value ∙ c.self.view_is in
    let share : PairBelow items (length items) (count + 1) = subst (λ (xs : List Numbered). PairBelow xs (length xs) (count + 1)) held c.least_sharing.ensures.share in
    let apart : ¬ PairBelow items (length items) count = subst (λ (xs : List Numbered). ¬ PairBelow xs (length xs) count) held c.least_sharing.ensures.apart in
    subst (λ (all : List Span). IsLeastSharing all count) same (least_from_pairs added items numbered moved count share apart)

pub returns-else-shares_below : goal.returns-else-shares_below
returns-else-shares_below c = λ spans (added, same, numbered, moved).
    let items = c.args.self.now in
    let held = c.deref.ensures.value ∙ c.self.view_is in
    let count : length c.deref.result.now ≡ c.len.result = c.deref.ensures.len ∙ sym c.len.ensures in
    let none : ¬ PairBelow items (length items) (length items) = λ share.
    let here = subst (λ n. PairBelow c.deref.result.now (length c.deref.result.now) n) count (subst (λ (xs : List Numbered). PairBelow xs (length xs) (length xs)) (sym held) share) in
    both_ways c.shares_below.result c.if-shares_below.false (c.shares_below.ensures.1 here) in
    subst (λ (all : List Span). (j : ℕ) → ¬ SharesEarlier all j) same (none_from_pairs added items numbered moved none)
