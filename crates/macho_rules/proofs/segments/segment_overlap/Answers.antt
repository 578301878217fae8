use Rattle.std.proofs.Common.{List, ℕ, subst, lit≤}
use Rattle.macho_spans.specs.SpanOrder.{IsSharingOf}
use Rattle.macho_fields.specs.declared.rule.Rule.TheVariants as rule
use Rattle.macho_rules.specs.Mapped.{tagged_memory}
use Rattle.macho_rules.proofs.Judged.{keeps_opened, judged_broken, judged_kept}
use Rattle.macho_rules.proofs.Overlapping.{none_shown, first_shown, unordered_shown}
use Rattle.macho_rules.proofs.segments.segment_overlap.Goals as goal

pub returns-in-None : goal.returns-in-None
returns-in-None c =
    let image = c.args.image.now in
    let opened = keeps_opened image rule.SegmentOverlap (lit≤ tt) c.requires.kept in
    let shown = subst (IsSharingOf (tagged_memory image)) c.in-None.is (subst (λ (bytes : List ℕ). IsSharingOf (tagged_memory bytes) c.sharing.result) c.requires.survey c.sharing.ensures) in
    judged_kept image rule.SegmentOverlap (lit≤ tt) c.requires.kept (none_shown image opened shown)

pub returns-in-First : goal.returns-in-First
returns-in-First c =
    let image = c.args.image.now in
    let opened = keeps_opened image rule.SegmentOverlap (lit≤ tt) c.requires.kept in
    let shown = subst (IsSharingOf (tagged_memory image)) c.in-First.is (subst (λ (bytes : List ℕ). IsSharingOf (tagged_memory bytes) c.sharing.result) c.requires.survey c.sharing.ensures) in
    let found = first_shown image opened c.in-First.place shown in
    judged_broken image rule.SegmentOverlap (lit≤ tt) c.requires.kept c.at.result c.in-First.place c.at.ensures.rule c.at.ensures.place found.0 found.1

pub sorted_overlap-requires-clause-unordered : goal.sorted_overlap-requires-clause-unordered
sorted_overlap-requires-clause-unordered c =
    let image = c.args.image.now in
    let opened = keeps_opened image rule.SegmentOverlap (lit≤ tt) c.requires.kept in
    let shown = subst (IsSharingOf (tagged_memory image)) c.in-Unknown.is (subst (λ (bytes : List ℕ). IsSharingOf (tagged_memory bytes) c.sharing.result) c.requires.survey c.sharing.ensures) in
    unordered_shown image opened shown

pub returns-in-Unknown : goal.returns-in-Unknown
returns-in-Unknown c = c.sorted_overlap.ensures
