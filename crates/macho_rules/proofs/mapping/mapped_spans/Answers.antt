use Rattle.std.proofs.Common.{length, ap, sym, subst, arith}
use Rattle.std.specs.Prelude.{AllPairs, All, IsPermutation}
use Rattle.std.proofs.lemmas.List.Sorted.{IsPermutation-trans}
use Rattle.std.proofs.lemmas.Result.{IfOk-weaker}
use Rattle.macho_spans.specs.Span.{Shares}
use Rattle.macho_spans.specs.Spans.{SpansView, IsPlaced}
use Rattle.macho_rules.specs.Mapped.{mapped_segments, numbered_memory}
use Rattle.macho_rules.proofs.Mapped.{mapped_some}
use Rattle.macho_rules.proofs.MappingItems.{pairs_moved, moved_count, moved_placed, moved_apart, err_for}
use Rattle.macho_rules.proofs.Verdicts.{unbroken_opened}
use Rattle.macho_rules.proofs.mapping.mapped_spans.Goals as goal

pub spans_of-requires-clause-placed : goal.spans_of-requires-clause-placed
spans_of-requires-clause-placed c =
    let image = c.args.image.now in
    let moved = pairs_moved image _ c.sort_unstable_by_key.new.self.items c.in_ok-pairs.ensures.pairs c.sort_unstable_by_key.ensures.permutation in
    subst (All (λ pair. IsPlaced pair.0)) (sym c.deref.ensures.value) (moved_placed image (unbroken_opened image c.requires.unbroken) c.requires.unbroken _ moved)

pub spans_of-requires-clause-apart : goal.spans_of-requires-clause-apart
spans_of-requires-clause-apart c =
    let image = c.args.image.now in
    let moved = pairs_moved image _ c.sort_unstable_by_key.new.self.items c.in_ok-pairs.ensures.pairs c.sort_unstable_by_key.ensures.permutation in
    subst (AllPairs (λ pair later. ¬ Shares pair.0 later.0)) (sym c.deref.ensures.value) (moved_apart image (unbroken_opened image c.requires.unbroken) c.requires.unbroken _ moved)

pub returns-clause-held : goal.returns-clause-held
returns-clause-held c =
    let image = c.args.image.now in
    let moved = pairs_moved image _ c.sort_unstable_by_key.new.self.items c.in_ok-pairs.ensures.pairs c.sort_unstable_by_key.ensures.permutation in
    IfOk-weaker c.spans_of.result (λ (spans : SpansView). IsPermutation c.deref.result.now spans.pairs) (λ (spans : SpansView). IsPermutation (numbered_memory image 0 (mapped_segments image)) spans.pairs)
    (λ spans held. IsPermutation-trans _ _ _ moved (subst (λ pairs. IsPermutation pairs spans.pairs) c.deref.ensures.value held)) c.spans_of.ensures.held

pub returns-clause-memory : goal.returns-clause-memory
returns-clause-memory c =
    let image = c.args.image.now in
    let moved = pairs_moved image _ c.sort_unstable_by_key.new.self.items c.in_ok-pairs.ensures.pairs c.sort_unstable_by_key.ensures.permutation in
    let count = moved_count image _ moved in
    let same = ap length c.deref.ensures.value in
    err_for (λ some. mapped_some image (omega (arith, count, same, some))) c.spans_of.result c.spans_of.ensures.memory
