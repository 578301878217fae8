use Rattle.std.proofs.Common.{None, sym, lit≤}
use Rattle.macho_fields.specs.Rules.{BreaksImage}
use Rattle.macho_fields.specs.declared.rule.Rule.TheVariants as rule
use Rattle.macho_rules.proofs.Judged.{keeps_opened, judged_broken, judged_kept}
use Rattle.macho_rules.proofs.Overlapping.{none_overlapping, least_overlapping, overlapping_index, unordered_takes}
use Rattle.macho_rules.proofs.Refusals.{without_memory}
use Rattle.macho_rules.specs.Verdict.{ImageTakesMemory}
use Rattle.macho_rules.proofs.segments.sorted_overlap.Goals as goal

pub returns-in_err-spans : goal.returns-in_err-spans
returns-in_err-spans c =
    let image = c.args.image.now in
    without_memory (BreaksImage image None) rule.SegmentOverlap (ImageTakesMemory image None) (unordered_takes image c.requires.kept c.requires.unordered) c.from_residual.result c.from_residual.ensures.1

pub returns-in_default : goal.returns-in_default
returns-in_default c =
    let image = c.args.image.now in
    let opened = keeps_opened image rule.SegmentOverlap (lit≤ tt) c.requires.kept in
    judged_kept image rule.SegmentOverlap (lit≤ tt) c.requires.kept (none_overlapping image opened c.in_ok-spans.spans.spans c.in_ok-spans.ensures.memory c.in_default.ensures)

pub mapped_place-place-requires : goal.mapped_place-place-requires
mapped_place-place-requires c =
    let opened = keeps_opened c.args.image.now rule.SegmentOverlap (lit≤ tt) c.requires.kept in
    overlapping_index c.args.image.now opened c.in-Some.index c.in_ok-spans.spans.spans c.in_ok-spans.ensures.memory c.in-Some.ensures

pub returns : goal.returns
returns c =
    let image = c.args.image.now in
    let opened = keeps_opened image rule.SegmentOverlap (lit≤ tt) c.requires.kept in
    let found = least_overlapping image opened c.in-Some.index c.mapped_place-place.result (sym c.mapped_place-place.ensures) c.in_ok-spans.spans.spans c.in_ok-spans.ensures.memory c.in-Some.ensures in
    judged_broken image rule.SegmentOverlap (lit≤ tt) c.requires.kept c.at.result c.mapped_place-place.result c.at.ensures.rule c.at.ensures.place found.0 found.1
