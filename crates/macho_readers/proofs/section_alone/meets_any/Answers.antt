use Rattle.std.proofs.Common.{ℕ, List, rules, tests}
use Rattle.macho_fields.specs.Segment.{Supplies}
use Rattle.macho_spans.specs.Span.{Holds}
use Rattle.macho_tables.proofs.Found.{any_segment}
use Rattle.macho_readers.proofs.section_alone.meets_any.Goals as goal

pub returns : goal.returns
returns c =
    any_segment c.args.image.now c.segments.ensures.segments (λ (image : List ℕ) (segment : ℕ). (address : ℕ) × Holds c.args.span.now address × Supplies image segment address) c.any.result c.any.ensures.ran
    (λ s b q k. search (rules, tests))
