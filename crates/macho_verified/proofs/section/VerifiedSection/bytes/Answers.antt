use Rattle.std.proofs.Common.{◌∙◌, length, sym, ap, arith, rules}
use Rattle.macho_image.specs.Segment.{SegmentView}
use Rattle.macho_verified.proofs.Accepted.{section_fits}
use Rattle.macho_verified.proofs.section.VerifiedSection.bytes.Goals as goal

pub data_in-requires : goal.data_in-requires
data_in-requires c some =
    let fits = section_fits c.self.inside.section c.self.invariant (sym c.is_zero_fill.ensures ∙ c.if-is_zero_fill.false) (λ none. some (c.file_part.ensures.len ∙ none)) in
    omega (arith, fits, c.file_part.ensures.start, c.file_part.ensures.len, ap length (c.image.ensures ∙ ap (λ (v : SegmentView). v.image) c.segment.ensures))

pub returns-clause-bytes : goal.returns-clause-bytes
returns-clause-bytes c = search rules
