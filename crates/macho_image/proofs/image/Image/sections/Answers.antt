use Rattle.macho_fields.specs.Bytes.{bytes_of}
use Rattle.macho_fields.specs.Image.{commands_of}
use Rattle.macho_image.specs.Segment.{section_at}
use Rattle.macho_image.proofs.HeldSegments.{all_sections_seen}
use Rattle.macho_image.proofs.image.Image.sections.Goals as goal

pub returns-clause-sections : goal.returns-clause-sections
returns-clause-sections c =
    let image = c.args.self.now in
    all_sections_seen image (commands_of image) (λ place. section_at (bytes_of c.bytes.result) (0, place)) _ _ c.none.ensures c.segments.ensures.segments

pub returns-clause-opened : goal.returns-clause-opened
returns-clause-opened c = c.segments.ensures.opened
