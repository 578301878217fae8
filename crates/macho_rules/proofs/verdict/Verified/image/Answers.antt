use Rattle.std.proofs.Common.{List, ℕ, None, sym, subst, rules}
use Rattle.macho_fields.specs.Bytes.{bytes_of}
use Rattle.macho_fields.specs.Image.{commands_of}
use Rattle.macho_fields.specs.Layers.{NothingBreaks}
use Rattle.macho_fields.specs.Loader.{IsSoundImage}
use Rattle.macho_fields.specs.Rules.{BreaksImage}
use Rattle.macho_rules.proofs.Verdicts.{unbroken_image_sound}
use Rattle.macho_rules.proofs.verdict.Verified.image.Goals as goal

pub returns-clause-unbroken : goal.returns-clause-unbroken
returns-clause-unbroken c = subst (λ (image : List ℕ). NothingBreaks (BreaksImage image None)) (sym c.reopen.ensures) c.in_ok-span.ensures.unbroken

pub returns-clause-sound : goal.returns-clause-sound
returns-clause-sound c =
    subst (λ (image : List ℕ). IsSoundImage image (commands_of image)) (sym c.reopen.ensures) (unbroken_image_sound (bytes_of c.in_ok-span.bytes) c.in_ok-span.ensures.unbroken)

pub returns-in_err-span-clause-is_image : goal.returns-in_err-span-clause-is_image
returns-in_err-span-clause-is_image c = search rules

pub returns-clause-is_image : goal.returns-clause-is_image
returns-clause-is_image c = search rules

pub returns-clause-image : goal.returns-clause-image
returns-clause-image c = search rules
