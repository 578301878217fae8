use Rattle.std.proofs.Common.{◌≡◌, ℕ, List, [], ◌∷◌, map, filter, nat_lt, refl, ap, ◌∙◌, inl, inr}
use Rattle.std.proofs.lemmas.Bool.{cases_Bool}
use Rattle.macho_fields.specs.Image.{commands_of}
use Rattle.macho_fields.specs.Segment.{segments_of, vmsize}
use Rattle.macho_image.specs.Mapped.{mapped_among}
use Rattle.macho_image.specs.Segment.{segment_at}
use Rattle.macho_image.proofs.image.Image.mapped_segments.Goals as goal

mapped_at : (image ps : List ℕ) → mapped_among (map (segment_at image) ps) ≡ map (segment_at image) (filter (λ p. nat_lt 0 (vmsize image p)) ps)
mapped_at image [] = refl
mapped_at image (p ∷ ps) =
    let rest = mapped_at image ps in elim (cases_Bool (nat_lt 0 (vmsize image p))) [ inl t ↦ rw t (ap (λ segments. segment_at image p ∷ segments) rest) | inr f ↦ rw f rest ]

pub returns-clause-segments : goal.returns-clause-segments
returns-clause-segments c =
    let image = c.args.self.now in ap mapped_among c.segments.ensures.segments ∙ mapped_at image (segments_of image (commands_of image))
