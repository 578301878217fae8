use Rattle.std.proofs.Common.{List, ℕ, length, sym, subst}
use Rattle.macho_fields.specs.Bytes.{bytes_of}
use Rattle.macho_chains.specs.Chains.{AreLeastInTable, AreLeastInImage}
use Rattle.macho_chains.proofs.ChainTables.{survey_fits, table_read, none_read, chain_table_some, chains_unlisted, chains_listed}
use Rattle.macho_chains.proofs.chains.ChainSurvey.of.Goals as goal

pub returns-in-None : goal.returns-in-None
returns-in-None c =
    rw (c.requires.command, c.unbroken.ensures) (chains_unlisted c.args.image.now (none_read c.args.image.now c.args.fixups.now c.requires c.in-None.is))

pub survey-requires : goal.survey-requires
survey-requires c = (table_read c.args.image.now c.args.fixups.now c.in-Some.table c.requires c.in-Some.is).header

pub moved-requires : goal.moved-requires
moved-requires c =
    let image = c.args.image.now in
    let table = c.in-Some.table in
    let is = table_read image c.args.fixups.now table c.requires c.in-Some.is in
    survey_fits image (bytes_of table.bytes) c.survey.result table.start (chain_table_some image _ is.named) c.survey.ensures is.near

pub returns-in-Some : goal.returns-in-Some
returns-in-Some c =
    let image = c.args.image.now in
    let table = c.in-Some.table in
    let is = table_read image c.args.fixups.now table c.requires c.in-Some.is in
    let are = subst (λ (bytes : List ℕ). AreLeastInTable image bytes c.survey.result) is.bytes c.survey.ensures in
    subst (AreLeastInImage image) (sym c.moved.ensures) (chains_listed image (record { start = table.start; len = length (bytes_of table.bytes) }) is.named c.survey.result are)
