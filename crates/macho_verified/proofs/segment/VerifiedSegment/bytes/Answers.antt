use Rattle.std.proofs.Common.{◌∙◌, length, ap, arith, rules}
use Rattle.macho_verified.proofs.Accepted.{segment_fits}
use Rattle.macho_verified.proofs.segment.VerifiedSegment.bytes.Goals as goal

pub data_in-requires : goal.data_in-requires
data_in-requires c some =
    let fits = segment_fits c.self.inside.segment c.self.invariant (λ none. some (c.file_part.ensures.len ∙ none)) in
    omega (arith, fits, c.file_part.ensures.start, c.file_part.ensures.len, ap length c.image.ensures)

pub returns-clause-bytes : goal.returns-clause-bytes
returns-clause-bytes c = search rules

pub returns-clause-whole : goal.returns-clause-whole
returns-clause-whole c = search rules
