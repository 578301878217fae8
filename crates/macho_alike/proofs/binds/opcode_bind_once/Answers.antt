use Rattle.std.proofs.Common.{◌↔◌, List, length, Contains, sym, subst}
use Rattle.macho_alike.specs.Binds.{IsBind}
use Rattle.macho_alike.specs.BindLists.{AreInside}
use Rattle.macho_alike.specs.declared.binds.Bind.{Bind}
use Rattle.macho_alike.proofs.BindStreams.{some_bind, least_listed}
use Rattle.macho_alike.proofs.BindLists.{on_err}
use Rattle.macho_alike.proofs.binds.opcode_bind_once.Goals as goal

pub least_shared-requires : goal.least_shared-requires
least_shared-requires c = subst (λ (xs : List Bind). AreInside (length c.args.image.now) xs) (sym c.deref_mut.ensures.value) c.in_ok-binds.ensures.inside

pub returns-clause-memory : goal.returns-clause-memory
returns-clause-memory c =
    let image = c.args.image.now in
    let listed : (bind : Bind) → Contains c.deref_mut.result.now bind ↔ IsBind image bind =
    λ bind. subst (λ (xs : List Bind). Contains xs bind ↔ IsBind image bind) (sym c.deref_mut.ensures.value) (c.in_ok-binds.ensures.all bind) in
    on_err _ _ c.least_shared.result (λ some. some_bind image c.deref_mut.result.now listed some) c.least_shared.ensures.memory

pub returns-clause-least : goal.returns-clause-least
returns-clause-least c =
    let image = c.args.image.now in
    let listed : (bind : Bind) → Contains c.deref_mut.result.now bind ↔ IsBind image bind =
    λ bind. subst (λ (xs : List Bind). Contains xs bind ↔ IsBind image bind) (sym c.deref_mut.ensures.value) (c.in_ok-binds.ensures.all bind) in
    least_listed image c.deref_mut.result.now listed c.least_shared.result c.least_shared.ensures.least
