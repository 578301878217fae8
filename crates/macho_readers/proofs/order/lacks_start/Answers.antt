use Rattle.std.proofs.Common.{sym, ◌∙◌}
use Rattle.macho_readers.proofs.Shifted.{lacks_some, lacks_none}
use Rattle.macho_readers.proofs.order.lacks_start.Goals as goal

pub returns-in-Some : goal.returns-in-Some
returns-in-Some c =
    let segment = c.args.segment.now in
    lacks_some segment.image segment.place c.in-Some.section _ (sym c.sections.ensures ∙ c.in-Some.ensures.steps) c.addr.result c.vmaddr.result c.addr.ensures c.vmaddr.ensures

pub returns-in-None : goal.returns-in-None
returns-in-None c = lacks_none c.args.segment.now.image c.args.segment.now.place (sym c.sections.ensures ∙ c.in-None.ensures.steps.0)
