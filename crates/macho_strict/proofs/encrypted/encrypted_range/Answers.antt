use Rattle.std.proofs.Common.{Err, lit<}
use Rattle.macho_fields.specs.Layers.{IsLeast}
use Rattle.macho_fields.specs.declared.rule.Rule.TheVariants as rule
use Rattle.macho_fields.proofs.FirstPlaces.{first_judged}
use Rattle.macho_strict.specs.Rules.{BreaksStrictImage}
use Rattle.macho_strict.specs.Verdict.{HasEncrypted}
use Rattle.macho_rules.proofs.Refusals.{refused}
use Rattle.macho_strict.proofs.Surveyed.{parts_apart}
use Rattle.macho_strict.proofs.encrypted.encrypted_range.Goals as goal

pub parts-requires-clause-apart : goal.parts-requires-clause-apart
parts-requires-clause-apart c =
    parts_apart c.args.image.now c.requires.survey.opened (λ p broken. c.requires.kept rule.SegmentFileOverlap p (lit< tt) broken)

pub returns-in_err-judge : goal.returns-in_err-judge
returns-in_err-judge c =
    let image = c.args.image.now in
    let b = c.in_err-judge.field-0.0 in
    let least : IsLeast (BreaksStrictImage image) b =
    first_judged {T = Unit {0}} (BreaksStrictImage image) rule.EncryptedRange c.first_misplaced.result (Err b) c.requires.kept c.first_misplaced.ensures c.in_err-judge.ensures in
    refused (BreaksStrictImage image) rule.EncryptedRange (HasEncrypted image) b least c.from_residual-in_err-judge.result c.from_residual-in_err-judge.ensures.1
