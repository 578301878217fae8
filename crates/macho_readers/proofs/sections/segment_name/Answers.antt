use Rattle.std.proofs.Common.{◌≡◌, ◌+◌, length, refl, ap, ◌∙◌, arith}
use Rattle.std.proofs.lemmas.Bool.{false≢true}
use Rattle.macho_fields.specs.Bytes.{bytes_of}
use Rattle.macho_image.specs.Segment.{SegmentView, short_name}
use Rattle.macho_image.proofs.Names.{short_name_ended, short_name_whole}
use Rattle.macho_readers.proofs.sections.segment_name.Goals as goal

pub returns-in-Some : goal.returns-in-Some
returns-in-Some c =
    let bytes = bytes_of c.image-image.result in
    let same : bytes ≡ c.args.section.now.image = c.image-image.ensures ∙ ap (λ (s : SegmentView). s.image) c.segment.ensures in
    c.in-Some.ensures.string ∙ (short_name_ended bytes (c.place.result + 16) (c.in-Some.ensures.ended.0 refl) ∙ (λ i. short_name (same i) (c.place.ensures i + 16)))

pub returns-in-None : goal.returns-in-None
returns-in-None c =
    let bytes = bytes_of c.image-image.result in
    let same : bytes ≡ c.args.section.now.image = c.image-image.ensures ∙ ap (λ (s : SegmentView). s.image) c.segment.ensures in
    c.read_part.ensures ∙ (short_name_whole bytes (c.place.result + 16) (omega (arith, c.requires, c.place.ensures, ap length same)) (λ has. false≢true (c.in-None.ensures.ended.1 has))
    ∙ (λ i. short_name (same i) (c.place.ensures i + 16)))
