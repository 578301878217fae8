use Rattle.std.proofs.lemmas.Bool.{false≢true}
use Rattle.macho_chains.proofs.ChainTables.{none_read, table_read}
use Rattle.macho_readers.proofs.NamedFixups.{no_table, of_table}
use Rattle.macho_readers.proofs.fixups.chains_name.Goals as goal

pub returns-in-None : goal.returns-in-None
returns-in-None c = (
  λ wrong. absurd (false≢true wrong),
  λ named. absurd (no_table c.args.image.now c.args.number (none_read c.args.image.now c.args.fixups.now c.requires c.in-None.is) named),
)

pub returns-in-Some : goal.returns-in-Some
returns-in-Some c =
    of_table c.args.image.now c.args.number c.in-Some.table (table_read c.args.image.now c.args.fixups.now c.in-Some.table c.requires c.in-Some.is) c.table_names.result c.table_names.ensures
