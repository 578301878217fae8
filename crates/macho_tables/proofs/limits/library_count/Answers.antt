use Rattle.std.proofs.Common.{◌∙◌, length, ap, inl, arith, rules, tests}
use Rattle.std.proofs.lemmas.Iterator.Consumers.{YieldsList-at, YieldsList-from_filter, count_from_yields_List}
use Rattle.macho_tables.proofs.Found.{commands_yield}
use Rattle.macho_tables.proofs.LibraryCounts.{loads, commands_few, libraries_counted}
use Rattle.macho_tables.proofs.limits.library_count.Goals as goal

pub count-requires-clause-fits : goal.count-requires-clause-fits
count-requires-clause-fits c =
    let few = commands_few c.args.image.now _ c.commands.ensures.commands c.commands.ensures.opened c.bytes.ensures.fits in inl (omega (arith, few, ap length c.filter.ensures.source))

pub returns : goal.returns
returns c =
    count_from_yields_List c.filter.result c.count.result c.count.ensures.ran
    (YieldsList-from_filter _ loads (YieldsList-at c.filter.ensures.source (commands_yield c.args.image.now c.commands.ensures.opened c.commands.ensures.commands)) c.filter.ensures.closure (λ x r q k. search (rules, tests)))
    ∙ libraries_counted c.args.image.now _ c.commands.ensures.commands
