use Rattle.std.proofs.Common.{rules, tests}
use Rattle.macho_tables.specs.Segments.{IsLinkedit}
use Rattle.macho_tables.proofs.Found.{any_segment}
use Rattle.macho_tables.proofs.homes.has_linkedit.Goals as goal

pub returns : goal.returns
returns c = any_segment c.args.image.now c.segments.ensures.segments IsLinkedit c.any.result c.any.ensures.ran (λ s b q k. search (rules, tests))
