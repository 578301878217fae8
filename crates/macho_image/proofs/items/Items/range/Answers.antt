use Rattle.std.proofs.Common.{take, drop, ap, ◌∙◌}
use Rattle.macho_image.proofs.Ranges.{items-range}
use Rattle.macho_image.proofs.items.Items.range.Goals as goal

pub returns : goal.returns
returns c =
    items-range c.self.inside.each c.self.inside.place c.self.inside.left c.args.first c.args.count c.min-first.result c.min.result c.min-first.ensures c.min.ensures
    ∙ ap (λ items. take c.args.count (drop c.args.first items)) c.self.view_is
