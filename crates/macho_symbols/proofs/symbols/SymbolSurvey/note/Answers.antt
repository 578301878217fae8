use Rattle.macho_rules.proofs.Surveys.{noted_as}
use Rattle.macho_symbols.proofs.symbols.SymbolSurvey.note.Goals as goal

pub returns-clause-library : goal.returns-clause-library
returns-clause-library c image are =
    noted_as c.lacks_library.result (c.lacks_library.ensures image are) c.args.symbol.place c.args.self.now.library c.note_if.new.found c.note_if.ensures
