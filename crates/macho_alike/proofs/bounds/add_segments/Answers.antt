use Rattle.std.proofs.Common.{◌≡◌, ◌<◌, ℕ, List, Some, sym, ap, ◌∙◌, subst, arith}
use Rattle.std.proofs.lemmas.Option.{same_Some}
use Rattle.macho_fields.specs.Bytes.{bytes_of}
use Rattle.macho_fields.specs.Field.{field}
use Rattle.macho_fields.specs.declared.bytes.Order.TheVariants.{Little}
use Rattle.macho_chains.specs.ChainStarts.{seg_count, HasBadEntries, BreaksChainStarts}
use Rattle.macho_chains.specs.declared.chain_header.ChainHeader.{ChainHeader}
use Rattle.macho_chains.proofs.ChainStarts.{entries_passed}
use Rattle.macho_chains.proofs.PointerSurveys.{file_part_inside}
use Rattle.macho_chains.proofs.UnbrokenStarts.{entries, count_is, entries_good, entries_inside}
use Rattle.macho_tables.proofs.SegmentWalks.{passed_none, passed_more, its_image, its_place, segment_listed}
use Rattle.macho_alike.specs.Bounds.{WereGathered, IsTableBound}
use Rattle.macho_alike.proofs.ChainBounds.{OfSegment, table_segments, table_uncounted, page_slots}
use Rattle.macho_alike.proofs.Gathered.{OfBelow, below_start, below_more, gathered_none, gathered_same}
use Rattle.macho_alike.proofs.bounds.add_segments.Goals as goal

-- the number of entries that was read
is_count : (chains : List ℕ) (header : ChainHeader) (from count : ℕ) → Some count ≡ field Little 4 chains from → from ≡ header.starts_offset → seg_count chains header ≡ Some count
is_count chains header from count read at = sym (read ∙ ap (field Little 4 chains) at)

module _ (image chains : List ℕ) (header : ChainHeader) (none : (offset : ℕ) → ¬ BreaksChainStarts image chains header offset) (count : ℕ) (is : seg_count chains header ≡ Some count) where
  all_entries : entries chains header ≡ count
  all_entries = same_Some _ _ (sym (count_is image chains header none) ∙ is)

  -- they are good
  count_good : ¬ HasBadEntries image chains header count
  count_good = subst (λ (n : ℕ). ¬ HasBadEntries image chains header n) all_entries (entries_good image chains header none)

pub returns-in_default : goal.returns-in_default
returns-in_default c =
    let image = c.args.image.now in
    let table = c.args.chains.start in
    let chains = bytes_of c.args.chains.bytes in
    let header = c.args.chains.header in
    gathered_none (IsTableBound image table chains header) c.args.bounds.now.items
    (table_uncounted image table chains header (sym (c.in_default.ensures ∙ ap (field Little 4 chains) c.from-starts_offset.ensures)))

pub loop-segment-init : goal.loop-segment-init
loop-segment-init c =
    (tt, tt, passed_none _, omega arith, below_start (OfSegment c.args.image.now c.args.chains.start (bytes_of c.args.chains.bytes) c.args.chains.header) c.args.bounds.now.items)

pub returns-then-index-count : goal.returns-then-index-count
returns-then-index-count c =
    let image = c.args.image.now in
    let table = c.args.chains.start in
    let chains = bytes_of c.args.chains.bytes in
    let header = c.args.chains.header in
    let count = c.in-Some.count in
    let is = is_count chains header c.from-starts_offset.result count c.in-Some.ensures c.from-starts_offset.ensures in
    let good = count_good image chains header c.requires.starts count is in
    let old = c.args.bounds.now.items in
    let new = c.loop-segment.bounds.items in
    gathered_same (OfBelow (OfSegment image table chains header) count) (IsTableBound image table chains header) old new (table_segments image table chains header count is good)
    (subst (λ (n : ℕ). WereGathered (OfBelow (OfSegment image table chains header) n) old new) c.if-index-count.true c.loop-segment.invariant.4)

pub add_segment-requires-clause-image : goal.add_segment-requires-clause-image
add_segment-requires-clause-image c =
    let are = c.into_iter-segment-iterator.ensures.into_iter_gives ∙ c.segments-segment-items.ensures.segments in
    its_image c.args.image.now _ _ c.loop-segment.index are c.loop-segment.invariant.2 c.in-Some-segment.segment _ c.in-Some-segment.ensures.steps

pub add_segment-requires-clause-listed : goal.add_segment-requires-clause-listed
add_segment-requires-clause-listed c =
    let are = c.into_iter-segment-iterator.ensures.into_iter_gives ∙ c.segments-segment-items.ensures.segments in
    its_place c.args.image.now _ _ c.loop-segment.index are c.loop-segment.invariant.2 c.in-Some-segment.segment _ c.in-Some-segment.ensures.steps

pub add_segment-requires-clause-file : goal.add_segment-requires-clause-file
add_segment-requires-clause-file c =
    let image = c.args.image.now in
    let segment = c.in-Some-segment.segment in
    let are = c.into_iter-segment-iterator.ensures.into_iter_gives ∙ c.segments-segment-items.ensures.segments in
    file_part_inside image c.requires.unbroken segment.place
    (segment_listed image _ _ c.loop-segment.index are c.loop-segment.invariant.2 segment _ c.in-Some-segment.ensures.steps)

pub add_segment-requires-clause-entry : goal.add_segment-requires-clause-entry
add_segment-requires-clause-entry c =
    let image = c.args.image.now in
    let chains = bytes_of c.args.chains.bytes in
    let header = c.args.chains.header in
    let count = c.in-Some.count in
    let is = is_count chains header c.from-starts_offset.result count c.in-Some.ensures c.from-starts_offset.ensures in
    let all = all_entries image chains header c.requires.starts count is in
    let inside = entries_inside image chains header c.requires.starts in
    let few = c.loop-segment.invariant.3 in
    omega (arith, all, inside, few, c.if-index-count.false)

pub add_segment-requires-clause-slots : goal.add_segment-requires-clause-slots
add_segment-requires-clause-slots c =
    let image = c.args.image.now in
    let table = c.args.chains.start in
    let chains = bytes_of c.args.chains.bytes in
    let header = c.args.chains.header in
    let count = c.in-Some.count in
    let index = c.loop-segment.index in
    let segment = c.in-Some-segment.segment in
    let is = is_count chains header c.from-starts_offset.result count c.in-Some.ensures c.from-starts_offset.ensures in
    let good = count_good image chains header c.requires.starts count is in
    let few = c.loop-segment.invariant.3 in
    let less : index < count = omega (arith, few, c.if-index-count.false) in
    let are = c.into_iter-segment-iterator.ensures.into_iter_gives ∙ c.segments-segment-items.ensures.segments in
    let at = its_place image _ _ index are c.loop-segment.invariant.2 segment _ c.in-Some-segment.ensures.steps in
    page_slots image table chains header count is good c.requires.slots index less segment.place at

pub loop-segment-preserved : goal.loop-segment-preserved
loop-segment-preserved c =
    let index = c.loop-segment.index in
    let few = c.loop-segment.invariant.3 in (
      tt,
      tt,
      passed_more _ _ index c.loop-segment.invariant.2 c.in-Some-segment.segment _ c.in-Some-segment.ensures.steps,
      omega (arith, few, c.if-index-count.false),
      below_more (OfSegment c.args.image.now c.args.chains.start (bytes_of c.args.chains.bytes) c.args.chains.header) index c.args.bounds.now.items c.loop-segment.bounds.items c.add_segment.new.bounds.items
          c.loop-segment.invariant.4 c.in_ok-add_segment.ensures,
    )

pub returns : goal.returns
returns c =
    let image = c.args.image.now in
    let table = c.args.chains.start in
    let chains = bytes_of c.args.chains.bytes in
    let header = c.args.chains.header in
    let count = c.in-Some.count in
    let is = is_count chains header c.from-starts_offset.result count c.in-Some.ensures c.from-starts_offset.ensures in
    let good = count_good image chains header c.requires.starts count is in
    let old = c.args.bounds.now.items in
    let new = c.loop-segment.bounds.items in
    let are = c.into_iter-segment-iterator.ensures.into_iter_gives ∙ c.segments-segment-items.ensures.segments in
    let past = entries_passed image chains header _ _ count c.loop-segment.index are c.loop-segment.invariant.2 c.in-None.ensures.steps.0 good in
    let few = c.loop-segment.invariant.3 in
    let all : c.loop-segment.index ≡ count = omega (arith, past, few) in
    gathered_same (OfBelow (OfSegment image table chains header) count) (IsTableBound image table chains header) old new (table_segments image table chains header count is good)
    (subst (λ (n : ℕ). WereGathered (OfBelow (OfSegment image table chains header) n) old new) all c.loop-segment.invariant.4)
