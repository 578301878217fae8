use Rattle.std.proofs.Common.{ℕ, List, subst}
use Rattle.macho_rows.specs.Symbols.{AreNames}
use Rattle.macho_rows.proofs.AllSymbols.{names_each}
use Rattle.macho_c.proofs.symbols.kesvuot_read_names.Goals as goal

pub returns-clause-all : goal.returns-clause-all
returns-clause-all c = λ shows.
    let symbols = c.args.symbols.now in
    let n = c.write_names.result in
    let old = c.args.names.now in
    let new = c.write_names.new.names in
    names_each c.args.file.now c.args.image.now shows symbols n old new
    (subst (λ (image : List ℕ). AreNames image c.args.image.now symbols n old new) c.held-held.ensures.bytes c.write_names.ensures)
