use Rattle.std.proofs.Common.{◌==◌, ◌∙◌, Bool, length, ap, inl, arith, rules, tests}
use Rattle.std.proofs.lemmas.Iterator.Consumers.{YieldsList-at, YieldsList-from_filter, count_from_yields_List}
use Rattle.macho_fields.specs.declared.header.loader.TheConstants as loader
use Rattle.macho_image.specs.Command.{CommandView}
use Rattle.macho_chains.specs.ChainPointers.{encryption_count}
use Rattle.macho_chains.proofs.ChainPages.{few_counted}
use Rattle.macho_tables.proofs.Found.{commands_yield}
use Rattle.macho_tables.proofs.LibraryCounts.{commands_few, kinds_counted}
use Rattle.macho_chains.proofs.chain_pages.Encryption.of.Goals as goal

pub count-count-requires-clause-fits : goal.count-count-requires-clause-fits
count-count-requires-clause-fits c =
    let few = commands_few c.args.image.now _ c.commands.ensures.commands c.commands.ensures.opened c.bytes.ensures.fits in inl (omega (arith, few, ap length c.filter.ensures.source))

abbrev encrypts : CommandView → Bool
encrypts v = v.cmd == loader.LC_ENCRYPTION_INFO_64

pub returns : goal.returns
returns c = record {
  opened = c.commands.ensures.opened;
  first = c.first_command.ensures;
  single = few_counted c.count-count.result (encryption_count c.args.image.now)
      (count_from_yields_List c.filter.result c.count-count.result c.count-count.ensures.ran
      (YieldsList-from_filter _ encrypts (YieldsList-at c.filter.ensures.source (commands_yield c.args.image.now c.commands.ensures.opened c.commands.ensures.commands)) c.filter.ensures.closure (λ x r q k. search (rules, tests)))
      ∙ kinds_counted c.args.image.now _ c.commands.ensures.commands (λ cmd. cmd == loader.LC_ENCRYPTION_INFO_64));
}
