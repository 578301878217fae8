use Rattle.std.proofs.Common.{◌≡◌, List, ℕ, length, slice_get, refl, subst}
use Rattle.macho_fields.specs.Universal.{slices_of, slice_bytes, IsImage}
use Rattle.macho_rules.specs.Mapped.{mapped_segments}
use Rattle.macho_rules.specs.Mapping.{segment_count, sources, GivesSources}
use Rattle.macho_rules.specs.Verdict.{HasMapped}
use Rattle.macho_rules.proofs.MappingItems.{some_and, some_both, on_err}
use Rattle.macho_rules.proofs.mapping.Mapping.of.Goals as goal

pub returns-clause-sources : goal.returns-clause-sources
returns-clause-sources c =
    let file = c.args.verified.now in
    some_and (slice_get (slices_of file) c.args.index) (λ slice. c.in-Some.image ≡ slice_bytes file slice)
    (λ slice. GivesSources (slice_bytes file slice) (sources c.in_ok-mapping.mapping))
    (λ slice is. subst (λ (bytes : List ℕ). GivesSources bytes (sources c.in_ok-mapping.mapping)) is c.in_ok-mapping.ensures.sources) c.in-Some.ensures.image

pub returns-clause-segments : goal.returns-clause-segments
returns-clause-segments c =
    let file = c.args.verified.now in
    some_and (slice_get (slices_of file) c.args.index) (λ slice. c.in-Some.image ≡ slice_bytes file slice)
    (λ slice. segment_count c.in_ok-mapping.mapping ≡ length (mapped_segments (slice_bytes file slice)))
    (λ slice is. subst (λ (bytes : List ℕ). segment_count c.in_ok-mapping.mapping ≡ length (mapped_segments bytes)) is c.in_ok-mapping.ensures.segments) c.in-Some.ensures.image

pub returns-clause-is_image : goal.returns-clause-is_image
returns-clause-is_image c = c.in-Some.ensures.is_image

pub returns-in_err-mapping-clause-memory : goal.returns-in_err-mapping-clause-memory
returns-in_err-mapping-clause-memory c =
    let file = c.args.verified.now in
    on_err c.from_residual.result (some_both (slice_get (slices_of file) c.args.index) (λ slice. IsImage (slice_bytes file slice)) (λ slice. c.in-Some.image ≡ slice_bytes file slice)
    (λ slice. HasMapped (slice_bytes file slice)) (λ slice is. subst HasMapped is c.in_err-mapping.ensures.memory) (c.in-Some.ensures.is_image.0 refl) c.in-Some.ensures.image)
