use Rattle.std.proofs.Common.{◌∷◌, Ok, Err, subst}
use Rattle.macho_fields.specs.FirstPlace.{IsLeastPlace}
use Rattle.macho_spans.specs.Overlap.{IsAscending}
use Rattle.macho_spans.specs.declared.span.Span.{Span}
use Rattle.macho_strict.specs.declared.gaps.Wanted.TheVariants as wanted
use Rattle.macho_strict.specs.Gaps.{IsStray, ComeByStart}
use Rattle.macho_fields.specs.Layers.{IsLeast}
use Rattle.macho_strict.specs.Rules.{BreaksStrictFile}
use Rattle.macho_strict.specs.Verdict.{slice_spans}
use Rattle.macho_fields.specs.declared.rule.Rule.TheVariants as rule
use Rattle.macho_fields.proofs.FirstPlaces.{first_judged}
use Rattle.macho_rules.proofs.Refusals.{without_memory, refused}
use Rattle.macho_strict.proofs.Ranks.{none_before_file}
use Rattle.macho_strict.proofs.SliceSpans.{least_of_file, ascend_after_table}
use Rattle.macho_strict.proofs.stray.fat_stray_byte.Goals as goal

pub returns-in_err-stray : goal.returns-in_err-stray
returns-in_err-stray c =
    let file = c.args.verified.now in
    let unordered : ¬ ComeByStart (c.in-Some.table ∷ slice_spans file) = c.in_err-stray.ensures.memory in
    let descend : ¬ IsAscending (slice_spans file) = λ up. subst (λ (table : Span). ¬ ComeByStart (table ∷ slice_spans file)) c.in-Some.ensures.1 unordered (ascend_after_table file up) in
    without_memory (BreaksStrictFile file) rule.FatStrayByte (¬ IsAscending (slice_spans file)) descend c.from_residual.result c.from_residual.ensures.1

pub returns-in_err-judge : goal.returns-in_err-judge
returns-in_err-judge c =
    let file = c.args.verified.now in
    let stray = c.in_ok-stray.stray in
    let b = c.in_err-judge.field-0.0 in
    let found = least_of_file file c.in-Some.ensures.0 stray (subst (λ (table : Span). IsLeastPlace (IsStray wanted.NonZero file (table ∷ slice_spans file)) stray) c.in-Some.ensures.1 c.in_ok-stray.ensures.found) in
    let least : IsLeast (BreaksStrictFile file) b = first_judged {T = Unit {0}} (BreaksStrictFile file) rule.FatStrayByte stray (Err b) (none_before_file file) found c.in_err-judge.ensures in
    refused (BreaksStrictFile file) rule.FatStrayByte (¬ IsAscending (slice_spans file)) b least c.from_residual-in_err-judge.result c.from_residual-in_err-judge.ensures.1

pub returns : goal.returns
returns c =
    let file = c.args.verified.now in
    let stray = c.in_ok-stray.stray in
    let found = least_of_file file c.in-Some.ensures.0 stray (subst (λ (table : Span). IsLeastPlace (IsStray wanted.NonZero file (table ∷ slice_spans file)) stray) c.in-Some.ensures.1 c.in_ok-stray.ensures.found) in
    first_judged {T = Unit {0}} (BreaksStrictFile file) rule.FatStrayByte stray (Ok c.in_ok-judge.field-0) (none_before_file file) found c.in_ok-judge.ensures
