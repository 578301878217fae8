use Rattle.macho_alike.proofs.BindLists.{if_ok, on_err, step_added, step_has}
use Rattle.macho_alike.proofs.binds.add_step.Goals as goal

pub returns-clause-added : goal.returns-clause-added
returns-clause-added c =
    if_ok _ _ c.add_pointers.result
    (step_added c.args.source c.args.cursor c.args.aim c.args.step c.in-Write.count c.in-Write.skip c.in-Write.is
    c.in-Some.segment c.in-Some-name.name c.in-Some.is c.in-Some-name.is c.first-first.result c.first-first.ensures c.args.binds.now.items c.add_pointers.new.binds.items)
    c.add_pointers.ensures.added

pub returns-clause-memory : goal.returns-clause-memory
returns-clause-memory c =
    on_err _ _ c.add_pointers.result
    (step_has c.args.source c.args.cursor c.args.aim c.args.step c.in-Write.count c.in-Write.skip c.in-Write.is
    c.in-Some.segment c.in-Some-name.name c.in-Some.is c.in-Some-name.is)
    c.add_pointers.ensures.memory
