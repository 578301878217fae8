use Rattle.std.proofs.Common.{◌≡◌, ◌+◌, ◌*◌, ◌<◌, List, ℕ, Some, sym, ap, ◌∙◌, subst, arith, inl, inr}
use Rattle.std.specs.Int.{div_ceil}
use Rattle.std.proofs.lemmas.Bool.{cases_lt, both_ways}
use Rattle.macho_fields.specs.FirstPlace.{IsLeastPlace}
use Rattle.macho_fields.specs.Segment.{section_offset, section_size}
use Rattle.macho_tables.specs.InitOffsets.{IsCalled, IsBadOffset, BadOffset, offset_count}
use Rattle.macho_tables.proofs.InitOffsets.{offset_begins, good_offset, first_bad_offset, no_bad_offset}
use Rattle.macho_tables.proofs.init_offsets.first_bad.Goals as goal
use Rattle.macho_tables.proofs.init_offsets.first_bad.Goals.{then-size-past-lt-INIT_OFFSET_SIZE-via-then-size-past-lt-INIT_OFFSET_SIZE, then-size-past-lt-INIT_OFFSET_SIZE-via-else-size-past-lt-INIT_OFFSET_SIZE+then-not-is_called}

pub overflow_add-place : goal.overflow_add-place
overflow_add-place c =
    let section = c.args.section.now.place in
    let start = c.offset-start.ensures.number ∙ ap (λ (bytes : List ℕ). section_offset bytes section) c.requires.of in
    let size = c.size-size.ensures ∙ ap (λ (bytes : List ℕ). section_size bytes section) c.requires.of in
    let begins = offset_begins c.size-size.result c.loop-index.index (subst (λ n. c.loop-index.index < n) c.div_ceil-index-end.ensures c.loop-index-test.true) in
    let inside = c.requires.inside (omega (arith, begins, size)) in
    omega (arith, begins, start, size, inside)

pub loop-index-preserved : goal.loop-index-preserved
loop-index-preserved c =
    let image = c.args.image.now in
    let section = c.args.section.now.place in
    let start = c.offset-start.ensures.number ∙ ap (λ (bytes : List ℕ). section_offset bytes section) c.requires.of in
    let size = c.size-size.ensures ∙ ap (λ (bytes : List ℕ). section_size bytes section) c.requires.of in
    let good = good_offset image section c.offset-start.result c.size-size.result c.loop-index.index start size c.if-size-past-lt-INIT_OFFSET_SIZE.false (c.is_called.ensures.called.0 c.if-not-is_called.false) in
    record {
      none = λ k less bad. elim (cases_lt k c.loop-index.index) [
        | inl before ↦ c.loop-index.invariant.none k before bad
        | inr late ↦ let same : k ≡ c.loop-index.index = omega (arith, less, late) in good (subst (IsBadOffset image section) same bad)
      ];
      runs = c.is_called.ensures.same;
    }

pub returns-clause-least : goal.returns-clause-least
returns-clause-least c =
    let image = c.args.image.now in
    let section = c.args.section.now.place in
    let size = c.size-size.ensures ∙ ap (λ (bytes : List ℕ). section_size bytes section) c.requires.of in
    let count : c.div_ceil-index-end.result ≡ offset_count image section = c.div_ceil-index-end.ensures ∙ ap (λ n. div_ceil n 4) size in
    no_bad_offset image section (λ j below. c.loop-index.invariant.none j (omega (arith, below, count, c.loop-index-test.false)))

pub returns-then-size-past-lt-INIT_OFFSET_SIZE-clause-least : goal.returns-then-size-past-lt-INIT_OFFSET_SIZE-clause-least
returns-then-size-past-lt-INIT_OFFSET_SIZE-clause-least c =
    let image = c.args.image.now in
    let section = c.args.section.now.place in
    let start = c.offset-start.ensures.number ∙ ap (λ (bytes : List ℕ). section_offset bytes section) c.requires.of in
    let size = c.size-size.ensures ∙ ap (λ (bytes : List ℕ). section_size bytes section) c.requires.of in
    let k = c.loop-index.index in
    let less : k < div_ceil c.size-size.result 4 = subst (λ n. k < n) c.div_ceil-index-end.ensures c.loop-index-test.true in
    let begins = offset_begins c.size-size.result k less in
    let bad : IsBadOffset image section k = elim c.then-size-past-lt-INIT_OFFSET_SIZE.branch [
      | then-size-past-lt-INIT_OFFSET_SIZE-via-then-size-past-lt-INIT_OFFSET_SIZE w ↦ (let cut = w.if-size-past-lt-INIT_OFFSET_SIZE.true in inl (omega (arith, cut, begins, size)))
      | then-size-past-lt-INIT_OFFSET_SIZE-via-else-size-past-lt-INIT_OFFSET_SIZE+then-not-is_called w ↦
          inr (λ called. both_ways w.is_called.result w.if-not-is_called.true (w.is_called.ensures.called.1 (subst (λ p. IsCalled image (p + k * 4)) (sym start) called)))
    ] in
    subst (λ p. IsLeastPlace (BadOffset image section) (Some (p + k * 4))) (sym start)
    (first_bad_offset image section k (subst (λ n. k < div_ceil n 4) size less) bad (λ j below. c.loop-index.invariant.none j below))
