use Rattle.macho_explain.proofs.command.obsolete_table.Goals as goal

pub returns-in_err-index : goal.returns-in_err-index
returns-in_err-index c = rw c.from_residual-in_err-index.ensures (λ has. c.in_err-index.ensures has.2.0 has.2.1)
