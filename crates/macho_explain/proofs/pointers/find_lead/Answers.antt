use Rattle.std.proofs.Common.{◌≡◌, ◌∙◌, ◌<◌, ℕ, List, Option, None, Some, ap, arith, below_more, refl, slice_index, subst, sym}
use Rattle.std.specs.Prelude.{IfNone, IsSomeAnd, MatchOption}
use Rattle.macho_chains.specs.ChainStarts.{entry_offset, seg_count}
use Rattle.macho_chains.specs.declared.chain_starts.SegmentStarts.{SegmentStarts}
use Rattle.macho_fields.specs.Bytes.{bytes_of}
use Rattle.macho_fields.specs.Field.{field}
use Rattle.macho_fields.specs.Segment.{all_segments, fileoff, filesize}
use Rattle.macho_fields.specs.declared.bytes.Order.TheVariants.{Little}
use Rattle.macho_spans.specs.declared.span.Span.{Span}
use Rattle.macho_tables.proofs.SegmentWalks.{passed_more, its_image, its_place}
use Rattle.macho_tables.specs.Homes.{bytes_of_segment}
use Rattle.macho_tables.specs.Items.{AtItem}
use Rattle.macho_explain.specs.Fixups.{HasStartsAt, IsEntryAt, LeadsOn, LeadsOnIn}
use Rattle.macho_explain.proofs.pointers.find_lead.Goals as goal
use Rattle.macho_explain.proofs.pointers.find_lead.Goals.{in_default-via-in-None-1, in_default-via-in-Some-starts_of+in-None-1}

-- nothing was found
missing : {X : Type 0} (A : Type 0) (r : Option X) → IfNone r A → r ≡ None → A
missing A r found is = subst (λ o. IfNone o A) is found

pub plain_room-requires-clause-image : goal.plain_room-requires-clause-image
plain_room-requires-clause-image c =
    let are = c.into_iter-segment-iterator.ensures.into_iter_gives ∙ c.segments-segment-items.ensures.segments in
    its_image c.args.image.now _ _ c.loop-segment.index are c.loop-segment.invariant.2 c.in-Some.segment _ c.in-Some.ensures.steps

pub loop-segment-preserved : goal.loop-segment-preserved
loop-segment-preserved c =
    let image = bytes_of c.args.sliced.now.held.bytes in
    let place = c.args.sliced.now.place in
    let table = c.args.chains.now.table.span.start in
    let chains = bytes_of c.args.chains.now.bytes in
    let header = c.args.chains.now.header in
    let index = c.loop-segment.index in
    let segment = c.in-Some.segment in
    let few = c.loop-segment.invariant.3 in
    let are = c.into_iter-segment-iterator.ensures.into_iter_gives ∙ c.segments-segment-items.ensures.segments in
    let passed = c.loop-segment.invariant.2 in
    let own : segment.image ≡ image = its_image c.args.image.now _ _ index are passed segment _ c.in-Some.ensures.steps ∙ c.requires in
    let at : slice_index (all_segments image) index ≡ segment.place = subst (λ (i : List ℕ). slice_index (all_segments i) index ≡ segment.place) c.requires (its_place c.args.image.now _ _ index are passed segment _ c.in-Some.ensures.steps) in
    let counted : seg_count chains header ≡ Some c.in_ok-count.count = ap (field Little 4 chains) (sym c.from-starts_offset.ensures) ∙ (sym c.u32_at.ensures ∙ c.in_ok-count.was) in
    let Entry : ℕ → Option ℕ → Type 0 = λ offset o. MatchOption o ⊥ (λ count. AtItem (entry_offset header) count (HasStartsAt chains header) offset) in
    let Leads : Option SegmentStarts → Type 0 = λ o. IsSomeAnd o (λ starts. LeadsOn image table chains (bytes_of_segment image (slice_index (all_segments image) index)) starts place) in
    let not_here : ¬ LeadsOnIn image table chains header place index = λ (has, listed, leads).
    let below : index < c.in_ok-count.count = omega (arith, few, c.if-index-count.false) in
    let entry : IsEntryAt chains header (entry_offset header index) = subst (Entry (entry_offset header index)) (sym counted) (index, below, refl, has) in
    elim c.in_default.branch [
      | in_default-via-in-None-1 w ↦
          let none : c.starts_of.result ≡ None = cc in
          subst Leads (sym (c.starts_of.ensures entry) ∙ none) leads
      | in_default-via-in-Some-starts_of+in-None-1 w ↦
          let starts = w.in-Some-starts_of.starts in
          let found : c.starts_of.result ≡ Some starts = cc in
          let none : w.lead_at.result ≡ None = cc in
          let start : fileoff image (slice_index (all_segments image) index) ≡ w.file_part.result.start = ap (fileoff image) at ∙ (ap (λ i. fileoff i segment.place) (sym own) ∙ sym w.file_part.ensures.start) in
          let len : filesize image (slice_index (all_segments image) index) ≡ w.file_part.result.len = ap (filesize image) at ∙ (ap (λ i. filesize i segment.place) (sym own) ∙ sym w.file_part.ensures.len) in
          let same : bytes_of_segment image (slice_index (all_segments image) index) ≡ w.file_part.result = rw start (rw len refl) in
          let here : LeadsOn image table chains (bytes_of_segment image (slice_index (all_segments image) index)) starts place = subst Leads (sym (c.starts_of.ensures entry) ∙ found) leads in
          missing _ w.lead_at.result w.lead_at.ensures none (subst (λ (s : Span). LeadsOn image table chains s starts place) same here)
    ] in (
      tt,
      tt,
      passed_more _ _ index passed segment _ c.in-Some.ensures.steps,
      omega (arith, few, c.if-index-count.false),
      below_more (λ k. ¬ LeadsOnIn image table chains header place k) index c.loop-segment.invariant.4 not_here,
    )
