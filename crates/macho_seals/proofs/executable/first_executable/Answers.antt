use Rattle.std.proofs.Common.{ℕ, List, Some, refl, sym, ◌∙◌, subst}
use Rattle.std.proofs.lemmas.Bool.{both_ways}
use Rattle.macho_fields.specs.FirstPlace.{IsLeastPlace}
use Rattle.macho_fields.specs.Segment.{all_segments}
use Rattle.macho_fields.proofs.FirstPlaces.{AreBreaks}
use Rattle.macho_image.specs.Segment.{SegmentView, segment_at}
use Rattle.macho_rules.proofs.Searches.{are_breaks_at, search_next, search_found, search_ended}
use Rattle.macho_rules.proofs.SegmentItems.{AreSegments, segments_search}
use Rattle.macho_spans.specs.declared.span.Span.{Span}
use Rattle.macho_seals.specs.Executable.{RunsBytes, IsExecutableIn}
use Rattle.macho_seals.proofs.executable.first_executable.Goals as goal

abbrev Runs : Span → SegmentView → Type 0
Runs bytes s = RunsBytes bytes s.image s.place

runs_break : (bytes : Span) (image : List ℕ) (all : List SegmentView) → AreSegments image all → AreBreaks (IsExecutableIn bytes image) (λ s. s.place) (Runs bytes) all
runs_break bytes image all are =
    subst (AreBreaks (IsExecutableIn bytes image) (λ s. s.place) (Runs bytes)) (sym are)
    (are_breaks_at (IsExecutableIn bytes image) (λ (s : SegmentView). s.place) (Runs bytes) (segment_at image) (all_segments image) (λ p has here. (has, here)) (λ p broken. (p, broken.0, broken.1, refl)))

pub loop-segment-init : goal.loop-segment-init
loop-segment-init c =
    let are = c.into_iter-segment-iterator.ensures.into_iter_gives ∙ c.segments-segment-items.ensures.segments in
    segments_search c.args.image.now _ are _ c.segments-segment-items.ensures.opened

pub loop-segment-preserved : goal.loop-segment-preserved
loop-segment-preserved c =
    search_next _ _ _ _ _ c.in-Some.segment c.in-Some.ensures.steps c.loop-segment.invariant
    (λ here. both_ways c.runs_bytes.result c.if-runs_bytes.false (c.runs_bytes.ensures.1 here))

pub returns-then-runs_bytes : goal.returns-then-runs_bytes
returns-then-runs_bytes c =
    let are = c.into_iter-segment-iterator.ensures.into_iter_gives ∙ c.segments-segment-items.ensures.segments in
    subst (λ place. IsLeastPlace (IsExecutableIn c.args.signature c.args.image.now) (Some place)) (sym c.place.ensures)
    (search_found (IsExecutableIn c.args.signature c.args.image.now) _ _ _ _ _ c.in-Some.segment c.in-Some.ensures.steps (runs_break c.args.signature c.args.image.now _ are) c.loop-segment.invariant
    (c.runs_bytes.ensures.0 c.if-runs_bytes.true))

pub returns : goal.returns
returns c =
    let are = c.into_iter-segment-iterator.ensures.into_iter_gives ∙ c.segments-segment-items.ensures.segments in
    search_ended (IsExecutableIn c.args.signature c.args.image.now) _ _ _ _ c.in-None.ensures.steps.0 (runs_break c.args.signature c.args.image.now _ are) c.loop-segment.invariant
