use Rattle.std.proofs.Common.{map, ap, ◌∙◌, arith}
use Rattle.macho_image.specs.Segment.{SegmentView}
use Rattle.macho_rules.specs.Mapped.{mapped_segments}
use Rattle.macho_rules.specs.FilePart.{file_at}
use Rattle.macho_rules.proofs.Mapped.{pushed, at_places, yielded_mapped, yielded_all, mapped_some}
use Rattle.macho_rules.proofs.MappingItems.{on_err, no_room}
use Rattle.macho_rules.proofs.mapping.file_parts.Goals as goal

pub returns-in_err-files-clause-memory : goal.returns-in_err-files-clause-memory
returns-in_err-files-clause-memory c =
    on_err c.from_residual.result (mapped_some c.args.image.now (omega (arith, c.requires, no_room c.with_capacity.result c.with_capacity.ensures.succeeds c.in_err-files.was)))

pub returns-in_err-push-clause-memory : goal.returns-in_err-push-clause-memory
returns-in_err-push-clause-memory c =
    on_err c.from_residual-in_err-push.result
    (yielded_mapped c.args.image.now c.into_iter-segment-iterator.result (c.into_iter-segment-iterator.ensures.into_iter_gives ∙ c.mapped_segments-segment-items.ensures.segments) c.loop-segment.yielded _ _ c.next.result c.loop-segment.yielded_by c.next.ensures.steps c.in-Some.segment c.in-Some.is)

pub loop-segment-preserved : goal.loop-segment-preserved
loop-segment-preserved c =
    pushed (λ (s : SegmentView). file_at s.image s.place) c.loop-segment.yielded c.in-Some.segment c.loop-segment.files.items _ c.new.result c.in_ok-push.ensures.items c.loop-segment.invariant c.new.ensures

pub returns-clause-files : goal.returns-clause-files
returns-clause-files c =
    let image = c.args.image.now in
    let all = yielded_all image c.into_iter-segment-iterator.result (c.into_iter-segment-iterator.ensures.into_iter_gives ∙ c.mapped_segments-segment-items.ensures.segments) c.loop-segment.yielded _ _ c.next.result c.loop-segment.yielded_by c.next.ensures.steps c.in-None.is in
    c.loop-segment.invariant ∙ (ap (map (λ (s : SegmentView). file_at s.image s.place)) all ∙ at_places file_at image (mapped_segments image))
