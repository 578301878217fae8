use Rattle.std.proofs.Common.{◌≡◌, ◌∙◌, ◌<◌, ◌≤◌, ℕ, List, Option, None, Some, ap, arith, below_more, refl, slice_index, subst, sym}
use Rattle.std.specs.Prelude.{IsSomeAnd, MatchOption}
use Rattle.std.proofs.lemmas.Bool.{false≢true}
use Rattle.macho_chains.specs.ChainPointers.{pointer_of}
use Rattle.macho_chains.specs.ChainStarts.{entry_offset, seg_count}
use Rattle.macho_chains.specs.declared.chain_starts.SegmentStarts.{SegmentStarts}
use Rattle.macho_fields.specs.Bytes.{bytes_of}
use Rattle.macho_fields.specs.Field.{field}
use Rattle.macho_fields.specs.Segment.{all_segments, fileoff, filesize}
use Rattle.macho_fields.specs.declared.bytes.Order.TheVariants.{Little}
use Rattle.macho_tables.proofs.Found.{match_none}
use Rattle.macho_tables.proofs.SegmentWalks.{passed_none, passed_more, its_image, its_place}
use Rattle.macho_tables.specs.Items.{AtItem}
use Rattle.macho_explain.specs.Explain.{long_at}
use Rattle.macho_explain.specs.Fixups.{BindsMissing, HasStartsAt, IsEntryAt}
use Rattle.macho_explain.proofs.pointers.find_bound.Goals as goal
use Rattle.macho_explain.proofs.pointers.find_bound.Goals.{else-holds-via-else-holds, else-holds-via-then-holds+in-None-1, else-holds-via-then-holds+in-Some-starts_of+in-None-1}

pub loop-segment-preserved : goal.loop-segment-preserved
loop-segment-preserved c =
    let image = bytes_of c.args.sliced.now.held.bytes in
    let place = c.args.sliced.now.place in
    let chains = bytes_of c.args.chains.now.bytes in
    let header = c.args.chains.now.header in
    let index = c.loop-segment.index in
    let segment = c.in-Some.segment in
    let few = c.loop-segment.invariant.3 in
    let are = c.into_iter-segment-iterator.ensures.into_iter_gives ∙ c.segments-segment-items.ensures.segments in
    let passed = c.loop-segment.invariant.2 in
    let own : segment.image ≡ image = its_image c.args.image.now _ _ index are passed segment _ c.in-Some.ensures.steps ∙ c.requires in
    let at : slice_index (all_segments image) index ≡ segment.place = subst (λ (i : List ℕ). slice_index (all_segments i) index ≡ segment.place) c.requires (its_place c.args.image.now _ _ index are passed segment _ c.in-Some.ensures.steps) in
    let start : fileoff image (slice_index (all_segments image) index) ≡ c.file_part.result.start = ap (fileoff image) at ∙ (ap (λ i. fileoff i segment.place) (sym own) ∙ sym c.file_part.ensures.start) in
    let len : filesize image (slice_index (all_segments image) index) ≡ c.file_part.result.len = ap (filesize image) at ∙ (ap (λ i. filesize i segment.place) (sym own) ∙ sym c.file_part.ensures.len) in
    let counted : seg_count chains header ≡ Some c.in_ok-count.count = ap (field Little 4 chains) (sym c.from-starts_offset.ensures) ∙ (sym c.u32_at.ensures ∙ c.in_ok-count.was) in
    let Entry : ℕ → Option ℕ → Type 0 = λ offset o. MatchOption o ⊥ (λ count. AtItem (entry_offset header) count (HasStartsAt chains header) offset) in
    let Bound : Option SegmentStarts → Type 0 = λ o. IsSomeAnd o (λ starts. IsSomeAnd (pointer_of starts.format (long_at image place)).import (λ import. header.imports_count ≤ import)) in
    let not_here : ¬ BindsMissing image chains header place index = λ (has, listed, held, binds).
    let below : index < c.in_ok-count.count = omega (arith, few, c.if-index-count.false) in
    let entry : IsEntryAt chains header (entry_offset header index) = subst (Entry (entry_offset header index)) (sym counted) (index, below, refl, has) in
    elim c.else-holds.branch [
      | else-holds-via-else-holds w ↦ false≢true (sym w.if-holds.false ∙ c.holds.ensures.1 (omega (arith, held, start), omega (arith, held, start, len)))
      | else-holds-via-then-holds+in-None-1 w ↦
          let missing : w.starts_of.result ≡ None = cc in
          subst Bound (sym (w.starts_of.ensures entry) ∙ missing) binds
      | else-holds-via-then-holds+in-Some-starts_of+in-None-1 w ↦
          let missing : w.missing_import.result ≡ None = cc in
          let none = match_none _ _ w.missing_import.result w.missing_import.ensures missing in
          let found : w.starts_of.result ≡ Some w.in-Some-starts_of.starts = cc in
          none (subst Bound (sym (w.starts_of.ensures entry) ∙ found) binds)
    ] in (
      tt,
      tt,
      passed_more _ _ index passed segment _ c.in-Some.ensures.steps,
      omega (arith, few, c.if-index-count.false),
      below_more (λ k. ¬ BindsMissing image chains header place k) index c.loop-segment.invariant.4 not_here,
    )

pub returns-in_err-count : goal.returns-in_err-count
returns-in_err-count c =
    let none : seg_count (bytes_of c.args.chains.now.bytes) c.args.chains.now.header ≡ None = ap (field Little 4 (bytes_of c.args.chains.now.bytes)) (sym c.from-starts_offset.ensures) ∙ (sym c.u32_at.ensures ∙ c.in_err-count.was) in
    rw (c.from_residual.ensures, none) (λ s. s)

pub returns-then-index-count : goal.returns-then-index-count
returns-then-index-count c =
    let counted : seg_count (bytes_of c.args.chains.now.bytes) c.args.chains.now.header ≡ Some c.in_ok-count.count = ap (field Little 4 (bytes_of c.args.chains.now.bytes)) (sym c.from-starts_offset.ensures) ∙ (sym c.u32_at.ensures ∙ c.in_ok-count.was) in
    rw counted (λ (k, less, binds). c.loop-segment.invariant.4 k (omega (arith, less, c.if-index-count.true)) binds)

pub loop-segment-init : goal.loop-segment-init
loop-segment-init c = (tt, tt, passed_none _, omega arith, λ k less binds. absurd (omega (arith, less)))
