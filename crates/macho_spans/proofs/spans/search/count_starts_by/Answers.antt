use Rattle.std.proofs.Common.{◌+◌, ◌-◌, ◌/◌, get_or, sym, ◌∙◌, ap, inl, inr, arith}
use Rattle.std.proofs.lemmas.Bool.{cases_lt, false≢true}
use Rattle.macho_spans.specs.declared.spans.pairs.Count.{Count}
use Rattle.macho_spans.proofs.SortedSpans.{half_up, half_down, few_probes, rose_on}
use Rattle.macho_spans.proofs.spans.search.count_starts_by.Goals as goal

pub starts_by-requires-clause-few : goal.starts_by-requires-clause-few
starts_by-requires-clause-few c =
    let count = rw c.begin_call.ensures.same at c.len-high.ensures in
    few_probes _ c.requires _ _ _ _ c.loop-low-test.true c.loop-low.invariant.0 (omega (arith, count, c.len-high.type_inv))

pub loop-low-preserved-then-starts_by : goal.loop-low-preserved-then-starts_by
loop-low-preserved-then-starts_by c =
    let same = c.loop-low.invariant.1 in (
      rw c.starts_by.ensures.probes.call (half_up _ c.requires _ _ _ _ c.loop-low-test.true c.loop-low.invariant.0 _ (omega arith) (omega arith) (omega arith)
          (λ d. (rw same at (c.starts_by.ensures.starts d)).0 c.if-starts_by.true)),
      c.starts_by.ensures.same ∙ same,
      ap (λ (count : Count). count.call) c.starts_by.ensures.tests ∙ c.loop-low.invariant.2,
      ap (λ (count : Count). count.all) c.starts_by.ensures.tests ∙ c.loop-low.invariant.3,
      rw c.starts_by.ensures.probes.call (rose_on _ _ _ _ c.loop-low.invariant.4 c.starts_by.ensures.probes.all),
    )

pub loop-low-preserved : goal.loop-low-preserved
loop-low-preserved c =
    let same = c.loop-low.invariant.1 in (
      rw c.starts_by.ensures.probes.call (half_down _ c.requires _ _ _ _ c.loop-low-test.true c.loop-low.invariant.0 _ (omega arith) (omega arith) (omega arith)
          (λ d. elim (cases_lt c.args.place (get_or c.args.held.now.pairs.items (c.loop-low.low + (c.loop-low.high - c.loop-low.low) / 2) d).0.start) [
            | inl after ↦ after
            | inr by ↦ absurd (false≢true (sym c.if-starts_by.false ∙ (rw same at (c.starts_by.ensures.starts d)).1 by))
          ])),
      c.starts_by.ensures.same ∙ same,
      ap (λ (count : Count). count.call) c.starts_by.ensures.tests ∙ c.loop-low.invariant.2,
      ap (λ (count : Count). count.all) c.starts_by.ensures.tests ∙ c.loop-low.invariant.3,
      rw c.starts_by.ensures.probes.call (rose_on _ _ _ _ c.loop-low.invariant.4 c.starts_by.ensures.probes.all),
    )
