use Rattle.std.proofs.Common.{List, ℕ, None, refl, subst, inr}
use Rattle.macho_fields.specs.Bytes.{bytes_of}
use Rattle.macho_fields.specs.Layers.{NothingBreaks}
use Rattle.macho_fields.specs.Rules.{BreaksImage}
use Rattle.macho_image.specs.Walk.{HasLandmarks}
use Rattle.macho_rules.specs.Verdict.{IsImageRefusal}
use Rattle.macho_rules.specs.declared.refusal.Refusal.TheVariants as refusal
use Rattle.macho_rules.proofs.Verdicts.{passed_on, opened_unbroken, opened_refused}
use Rattle.macho_rules.proofs.verdict.check_bytes.Goals as goal

pub returns-in_err-image-clause-refused : goal.returns-in_err-image-clause-refused
returns-in_err-image-clause-refused c =
    passed_on (IsImageRefusal (bytes_of c.args.bytes) c.args.slice.now.arch) c.from_residual.result (refusal.Broken c.in_err-image.field-0.0) c.from_residual.ensures.1
    c.in_err-image.ensures.decides

pub returns-in_err-check_image-clause-refused : goal.returns-in_err-check_image-clause-refused
returns-in_err-check_image-clause-refused c =
    passed_on (IsImageRefusal (bytes_of c.args.bytes) c.args.slice.now.arch) c.from_residual-in_err-check_image.result c.in_err-check_image.field-0.0 c.from_residual-in_err-check_image.ensures.1
    (opened_refused (bytes_of c.args.bytes) c.args.slice.now.arch c.in_ok-image.ensures.decides c.in_err-check_image.field-0.0
    (subst (λ (image : List ℕ). IsImageRefusal image None c.in_err-check_image.field-0.0) c.in_ok-image.ensures.image c.in_err-check_image.ensures.refused))

pub returns-then-keep-clause-unbroken : goal.returns-then-keep-clause-unbroken
returns-then-keep-clause-unbroken c =
    opened_unbroken (bytes_of c.args.bytes) c.args.slice.now.arch c.in_ok-image.ensures.decides
    (subst (λ (image : List ℕ). NothingBreaks (BreaksImage image None)) c.in_ok-image.ensures.image c.in_ok-check_image.ensures.unbroken)

pub returns-else-keep-clause-unbroken : goal.returns-else-keep-clause-unbroken
returns-else-keep-clause-unbroken c =
    opened_unbroken (bytes_of c.args.bytes) c.args.slice.now.arch c.in_ok-image.ensures.decides
    (subst (λ (image : List ℕ). NothingBreaks (BreaksImage image None)) c.in_ok-image.ensures.image c.in_ok-check_image.ensures.unbroken)

pub returns-then-keep-clause-landmarks : goal.returns-then-keep-clause-landmarks
returns-then-keep-clause-landmarks c = inr (refl, subst (λ (image : List ℕ). HasLandmarks image c.landmarks.result) c.in_ok-image.ensures.image c.landmarks.ensures)
