use Rattle.std.proofs.Common.{rules, tests}
use Rattle.macho_tables.specs.CodeParts.{IsOtherPart}
use Rattle.macho_tables.proofs.Found.{any_segment}
use Rattle.macho_tables.proofs.code_parts.has_other_part.Goals as goal

pub returns : goal.returns
returns c = any_segment c.args.image.now c.segments.ensures.segments (IsOtherPart c.args.first) c.any.result c.any.ensures.ran (λ s b q k. search (rules, tests))
