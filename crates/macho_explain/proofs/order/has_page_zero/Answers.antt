use Rattle.std.proofs.Common.{rules, tests}
use Rattle.macho_tables.proofs.Found.{any_segment}
use Rattle.macho_readers.specs.Order.{IsPageZero}
use Rattle.macho_explain.proofs.order.has_page_zero.Goals as goal

pub returns : goal.returns
returns c =
    any_segment c.args.image.now c.segments.ensures.segments IsPageZero c.any.result c.any.ensures.ran
    (λ s b q k. search (rules, tests))
