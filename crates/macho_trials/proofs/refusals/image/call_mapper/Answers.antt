use Rattle.std.proofs.Common.{List, ℕ, None, sym, subst}
use Rattle.macho_fields.specs.Layers.{NothingBreaks}
use Rattle.macho_fields.specs.Rules.{BreaksImage}
use Rattle.macho_trials.proofs.refusals.image.call_mapper.Goals as goal

pub of_image-requires : goal.of_image-requires
of_image-requires c = subst (λ (image : List ℕ). NothingBreaks (BreaksImage image None)) (sym c.image.ensures.image) c.image.ensures.unbroken
