use Rattle.std.proofs.Common.{Ok, Err}
use Rattle.macho_fields.specs.Layers.{IsLeast}
use Rattle.macho_fields.specs.declared.rule.Rule.TheVariants as rule
use Rattle.macho_fields.proofs.FirstPlaces.{first_judged}
use Rattle.macho_spans.specs.Overlap.{IsAscending}
use Rattle.macho_strict.specs.Rules.{BreaksStrictImage}
use Rattle.macho_strict.specs.Verdict.{file_parts}
use Rattle.macho_rules.proofs.Refusals.{without_memory, refused}
use Rattle.macho_strict.proofs.Surveyed.{least_overlap}
use Rattle.macho_strict.proofs.segments.FilePartSurvey.segment_file_overlap.Goals as goal

pub returns-in_err-overlap : goal.returns-in_err-overlap
returns-in_err-overlap c =
    let image = c.args.image.now in
    without_memory (BreaksStrictImage image) rule.SegmentFileOverlap (¬ IsAscending (file_parts image)) c.in_err-overlap.ensures.memory c.from_residual.result c.from_residual.ensures.1

pub returns-in_err-judge : goal.returns-in_err-judge
returns-in_err-judge c =
    let image = c.args.image.now in
    let found = least_overlap image c.requires.survey.opened c.in_ok-overlap.overlap c.in_ok-overlap.ensures.first in
    let b = c.in_err-judge.field-0.0 in
    let least : IsLeast (BreaksStrictImage image) b = first_judged {T = Unit {0}} (BreaksStrictImage image) rule.SegmentFileOverlap c.in_ok-overlap.overlap (Err b) c.requires.kept found c.in_err-judge.ensures in
    refused (BreaksStrictImage image) rule.SegmentFileOverlap (¬ IsAscending (file_parts image)) b least c.from_residual-in_err-judge.result c.from_residual-in_err-judge.ensures.1

pub returns : goal.returns
returns c =
    let image = c.args.image.now in
    let found = least_overlap image c.requires.survey.opened c.in_ok-overlap.overlap c.in_ok-overlap.ensures.first in
    first_judged {T = Unit {0}} (BreaksStrictImage image) rule.SegmentFileOverlap c.in_ok-overlap.overlap (Ok c.in_ok-judge.field-0) c.requires.kept found c.in_ok-judge.ensures
