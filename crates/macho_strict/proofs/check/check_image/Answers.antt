use Rattle.std.proofs.Common.{Ok, Err, inl, inr}
use Rattle.macho_fields.specs.Layers.{IsLeast}
use Rattle.macho_fields.specs.declared.rule.Rule.TheVariants as rule
use Rattle.macho_fields.proofs.FirstPlaces.{first_judged}
use Rattle.macho_rules.specs.declared.refusal.Refusal.TheVariants as refusal
use Rattle.macho_spans.specs.Overlap.{IsAscending}
use Rattle.macho_strict.specs.Rules.{BreaksStrictImage}
use Rattle.macho_strict.specs.Verdict.{file_parts, element_spans, HasEncrypted, HasLooseNop}
use Rattle.macho_strict.proofs.Surveyed.{least_stray}
use Rattle.macho_strict.proofs.Ranks.{all_unbroken}
use Rattle.macho_strict.proofs.Verdicts.{passed_of}
use Rattle.macho_strict.proofs.check.check_image.Goals as goal

pub returns-in_err-survey-clause-refused : goal.returns-in_err-survey-clause-refused
returns-in_err-survey-clause-refused c =
    passed_of c.args.image.now (¬ IsAscending (file_parts c.args.image.now)) (λ not. inl not) refusal.Memory c.in_err-survey.ensures.memory c.from_residual-in_err-survey.result c.from_residual-in_err-survey.ensures.1

pub returns-in_err-segment_file_overlap-clause-refused : goal.returns-in_err-segment_file_overlap-clause-refused
returns-in_err-segment_file_overlap-clause-refused c =
    passed_of c.args.image.now (¬ IsAscending (file_parts c.args.image.now)) (λ not. inl not) c.in_err-segment_file_overlap.field-0.0 c.in_err-segment_file_overlap.ensures
    c.from_residual-in_err-segment_file_overlap.result c.from_residual-in_err-segment_file_overlap.ensures.1

pub returns-in_err-claims-clause-refused : goal.returns-in_err-claims-clause-refused
returns-in_err-claims-clause-refused c =
    passed_of c.args.image.now (¬ IsAscending (element_spans c.args.image.now)) (λ not. inr (inl not)) refusal.Memory c.in_err-claims.ensures.memory c.from_residual-in_err-claims.result c.from_residual-in_err-claims.ensures.1

pub returns-in_err-judge-clause-refused : goal.returns-in_err-judge-clause-refused
returns-in_err-judge-clause-refused c =
    let image = c.args.image.now in
    let b = c.in_err-judge.field-0.0 in
    let least : IsLeast (BreaksStrictImage image) b =
    first_judged {T = Unit {0}} (BreaksStrictImage image) rule.ElementOverlap c.in_ok-claims.claims.broken (Err b) c.in_ok-segment_file_overlap.ensures c.in_ok-claims.ensures.claims.broken c.in_err-judge.ensures in
    passed_of image ⊥ (λ none. absurd none) (refusal.Broken b) least c.from_residual-in_err-judge.result c.from_residual-in_err-judge.ensures.1

pub returns-in_err-judge-2-clause-refused : goal.returns-in_err-judge-2-clause-refused
returns-in_err-judge-2-clause-refused c =
    let image = c.args.image.now in
    let b = c.in_err-judge-2.field-0.0 in
    let kept = first_judged {T = Unit {0}} (BreaksStrictImage image) rule.ElementOverlap c.in_ok-claims.claims.broken (Ok c.in_ok-judge.field-0) c.in_ok-segment_file_overlap.ensures c.in_ok-claims.ensures.claims.broken c.in_ok-judge.ensures in
    let least : IsLeast (BreaksStrictImage image) b =
    first_judged {T = Unit {0}} (BreaksStrictImage image) rule.StrayByte c.in_ok-survey.survey.stray (Err b) kept (least_stray image c.in_ok-survey.survey.stray c.in_ok-survey.ensures.survey.stray) c.in_err-judge-2.ensures in
    passed_of image ⊥ (λ none. absurd none) (refusal.Broken b) least c.from_residual-in_err-judge-2.result c.from_residual-in_err-judge-2.ensures.1

pub encrypted_range-requires-clause-kept : goal.encrypted_range-requires-clause-kept
encrypted_range-requires-clause-kept c =
    let image = c.args.image.now in
    let kept = first_judged {T = Unit {0}} (BreaksStrictImage image) rule.ElementOverlap c.in_ok-claims.claims.broken (Ok c.in_ok-judge.field-0) c.in_ok-segment_file_overlap.ensures c.in_ok-claims.ensures.claims.broken c.in_ok-judge.ensures in
    first_judged {T = Unit {0}} (BreaksStrictImage image) rule.StrayByte c.in_ok-survey.survey.stray (Ok c.in_ok-judge-2.field-0) kept (least_stray image c.in_ok-survey.survey.stray c.in_ok-survey.ensures.survey.stray) c.in_ok-judge-2.ensures

pub returns-in_err-encrypted_range-clause-refused : goal.returns-in_err-encrypted_range-clause-refused
returns-in_err-encrypted_range-clause-refused c =
    passed_of c.args.image.now (HasEncrypted c.args.image.now) (λ has. inr (inr (inl has))) c.in_err-encrypted_range.field-0.0 c.in_err-encrypted_range.ensures
    c.from_residual-in_err-encrypted_range.result c.from_residual-in_err-encrypted_range.ensures.1

pub returns-in_err-judge-3-clause-refused : goal.returns-in_err-judge-3-clause-refused
returns-in_err-judge-3-clause-refused c =
    let image = c.args.image.now in
    let b = c.in_err-judge-3.field-0.0 in
    let least : IsLeast (BreaksStrictImage image) b = first_judged {T = Unit {0}} (BreaksStrictImage image) rule.CommandSlack c.of-noted.result.slack (Err b) c.in_ok-encrypted_range.ensures c.of-noted.ensures.slack c.in_err-judge-3.ensures in
    passed_of image ⊥ (λ none. absurd none) (refusal.Broken b) least c.from_residual-in_err-judge-3.result c.from_residual-in_err-judge-3.ensures.1

pub unclaimed_byte-requires-clause-kept : goal.unclaimed_byte-requires-clause-kept
unclaimed_byte-requires-clause-kept c =
    first_judged {T = Unit {0}} (BreaksStrictImage c.args.image.now) rule.CommandSlack c.of-noted.result.slack (Ok c.in_ok-judge-3.field-0) c.in_ok-encrypted_range.ensures c.of-noted.ensures.slack c.in_ok-judge-3.ensures

pub returns-in_err-unclaimed_byte-clause-refused : goal.returns-in_err-unclaimed_byte-clause-refused
returns-in_err-unclaimed_byte-clause-refused c =
    passed_of c.args.image.now (HasLooseNop c.args.image.now) (λ nop. inr (inr (inr nop))) c.in_err-unclaimed_byte.field-0.0 c.in_err-unclaimed_byte.ensures
    c.from_residual-in_err-unclaimed_byte.result c.from_residual-in_err-unclaimed_byte.ensures.1

pub returns-clause-unbroken : goal.returns-clause-unbroken
returns-clause-unbroken c = all_unbroken c.args.image.now c.in_ok-unclaimed_byte.ensures
