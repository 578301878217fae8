use Rattle.std.proofs.Common.{◌∙◌, refl, sym}
use Rattle.macho_fields.specs.declared.header.loader.TheConstants as loader
use Rattle.macho_tables.proofs.DataTables.{data_inside}
use Rattle.macho_exports.proofs.ExportTables.{data_fields, some_inside}
use Rattle.macho_exports.proofs.exports.exports_data.Goals as goal

pub table_by-requires-clause-start : goal.table_by-requires-clause-start
table_by-requires-clause-start c = (data_fields c.args.image.now c.in_ok-command.command (sym c.first_place.ensures ∙ c.in_ok-command.was) c.requires).0

pub table_by-requires-clause-size : goal.table_by-requires-clause-size
table_by-requires-clause-size c = (data_fields c.args.image.now c.in_ok-command.command (sym c.first_place.ensures ∙ c.in_ok-command.was) c.requires).1

pub returns-clause-inside : goal.returns-clause-inside
returns-clause-inside c = λ keeps.
    (some_inside c.args.image.now _ c.table_by.result c.table_by.ensures
    (data_inside c.args.image.now loader.LC_DYLD_EXPORTS_TRIE refl c.in_ok-command.command (sym c.first_place.ensures ∙ c.in_ok-command.was) keeps)).0
