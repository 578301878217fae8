use Rattle.std.proofs.Common.{ℕ, take, get_or}
use Rattle.std.proofs.lemmas.List.{take_more}
use Rattle.std.proofs.lemmas.List.Sorted.{IsPermutation-push_more}
use Rattle.macho_spans.specs.declared.span.Span.{Span}
use Rattle.macho_rules.proofs.MappingItems.{added_unless, next_apart, no_pair}
use Rattle.macho_rules.proofs.mapping.spans_of.Goals as goal

pub loop-span-preserved : goal.loop-span-preserved
loop-span-preserved c =
    let pairs = c.args.pairs.now in
    let i = c.loop-span.span-index in
    let pair : Span × ℕ = get_or pairs i no_pair in
    let apart = next_apart pairs c.loop-span.spans.pairs i c.loop-span-test.true c.requires.apart c.loop-span.invariant.held in
    let added = c.in_ok-try_insert.ensures.added (added_unless c.in_ok-try_insert.field-0 (λ overlap. apart (c.in_ok-try_insert.ensures.overlap.0 overlap))) in
    record {
      held = rw (take_more pairs i no_pair c.loop-span-test.true) (IsPermutation-push_more (take i pairs) c.loop-span.spans.pairs c.try_insert.new.self.pairs pair c.loop-span.invariant.held added);
      sorted = c.in_ok-try_insert.ensures.sorted;
    }

pub returns-clause-memory : goal.returns-clause-memory
returns-clause-memory c = tt
