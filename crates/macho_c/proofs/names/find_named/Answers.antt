use Rattle.macho_c.proofs.names.find_named.Goals as goal

pub returns : goal.returns
returns c = record { is = c.first_numbered.ensures }
