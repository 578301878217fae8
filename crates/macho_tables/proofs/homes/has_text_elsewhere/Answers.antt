use Rattle.std.proofs.Common.{rules, tests}
use Rattle.macho_tables.specs.Homes.{IsTextElsewhere}
use Rattle.macho_tables.proofs.Found.{any_segment}
use Rattle.macho_tables.proofs.homes.has_text_elsewhere.Goals as goal

pub returns : goal.returns
returns c = any_segment c.args.image.now c.segments.ensures.segments (IsTextElsewhere c.args.base) c.any.result c.any.ensures.ran (λ s b q k. search (rules, tests))
