use Rattle.std.proofs.Common.{List, map, sym, subst}
use Rattle.std.specs.Prelude.{IsPermutation}
use Rattle.macho_fields.specs.Segment.{all_segments}
use Rattle.macho_spans.specs.Overlap.{sorted_spans}
use Rattle.macho_spans.specs.declared.span.Span.{Span}
use Rattle.macho_strict.proofs.Disjoints.{disjoint_sorted}
use Rattle.macho_tables.specs.SegmentMemory.{memory_of, HoldMemory}
use Rattle.macho_tables.proofs.SegmentMemory.{none_share, hold_memory}
use Rattle.macho_tables.proofs.segment_memory.memory_of.Goals as goal

pub new-requires : goal.new-requires
new-requires c =
    let image = c.args.image.now in
    let moved = subst (λ (spans : List Span). IsPermutation spans (sorted_spans c.sorted.result)) c.in_ok-list.ensures c.sorted.ensures.permutation in
    disjoint_sorted (map (memory_of c.args.extent image) (all_segments image)) (sorted_spans c.sorted.result) moved c.sorted.ensures.rising (none_share c.args.extent image c.requires)

pub returns : goal.returns
returns c =
    let image = c.args.image.now in
    let moved = subst (λ (spans : List Span). IsPermutation spans (sorted_spans c.sorted.result)) c.in_ok-list.ensures c.sorted.ensures.permutation in
    subst (HoldMemory c.args.extent image) (sym c.new.ensures) (hold_memory c.args.extent image (sorted_spans c.sorted.result) moved)
