use Rattle.std.proofs.Common.{◌≡◌, List, ℕ, None, IfOk, OnErr, length, sym, subst}
use Rattle.macho_fields.specs.Layers.{NothingBreaks}
use Rattle.macho_fields.specs.Rules.{BreaksImage}
use Rattle.macho_rules.specs.Mapping.{sources, segment_count, mapped_segments, GivesSources}
use Rattle.macho_rules.specs.Verdict.{HasMapped}
use Rattle.macho_verified.proofs.image.VerifiedImage.mapping.Goals as goal

pub of_image-requires : goal.of_image-requires
of_image-requires c = subst (λ (image : List ℕ). NothingBreaks (BreaksImage image None)) (sym c.image.ensures.image) c.image.ensures.unbroken

pub returns-clause-sources : goal.returns-clause-sources
returns-clause-sources c = subst (λ (image : List ℕ). IfOk c.of_image.result (λ mapping. GivesSources image (sources mapping))) c.image.ensures.image c.of_image.ensures.sources

pub returns-clause-segments : goal.returns-clause-segments
returns-clause-segments c =
    subst (λ (image : List ℕ). IfOk c.of_image.result (λ mapping. segment_count mapping ≡ length (mapped_segments image))) c.image.ensures.image c.of_image.ensures.segments

pub returns-clause-probes : goal.returns-clause-probes
returns-clause-probes c = c.of_image.ensures.probes

pub returns-clause-memory : goal.returns-clause-memory
returns-clause-memory c = subst (λ (image : List ℕ). OnErr c.of_image.result (HasMapped image)) c.image.ensures.image c.of_image.ensures.memory
