use Rattle.macho_alike.proofs.BindRenames.{AreListed}
use Rattle.macho_alike.proofs.bind_names.names_of.Given as goal

-- the names of the binds before this one are listed
abbrev pub invariant-loop-bind : goal.invariant-loop-bind
invariant-loop-bind l = AreListed l.binds l.bind-index l.names.items l.last
