use Rattle.macho_alike.proofs.BindRenames.{names_moved}
use Rattle.macho_alike.proofs.bind_names.sorted_names.Goals as goal

pub returns-clause-names : goal.returns-clause-names
returns-clause-names c =
    names_moved c.args.binds.now c.in_ok-names.names.items c.sort_unstable_by_key.new.self.items c.sort_unstable_by_key.ensures.permutation c.in_ok-names.ensures.names
