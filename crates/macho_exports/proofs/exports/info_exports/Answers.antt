use Rattle.std.proofs.Common.{◌∙◌, sym}
use Rattle.macho_exports.proofs.ExportTables.{info_fields, info_inside, some_inside}
use Rattle.macho_exports.proofs.exports.info_exports.Goals as goal

pub table_by-requires-clause-start : goal.table_by-requires-clause-start
table_by-requires-clause-start c = (info_fields c.args.image.now c.in_ok-command.command (sym c.dyld_info.ensures ∙ c.in_ok-command.was) c.requires).0

pub table_by-requires-clause-size : goal.table_by-requires-clause-size
table_by-requires-clause-size c = (info_fields c.args.image.now c.in_ok-command.command (sym c.dyld_info.ensures ∙ c.in_ok-command.was) c.requires).1

pub returns-clause-inside : goal.returns-clause-inside
returns-clause-inside c = λ keeps.
    (some_inside c.args.image.now _ c.table_by.result c.table_by.ensures (info_inside c.args.image.now c.in_ok-command.command (sym c.dyld_info.ensures ∙ c.in_ok-command.was) keeps)).0
