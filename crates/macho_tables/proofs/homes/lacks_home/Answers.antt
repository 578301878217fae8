use Rattle.macho_tables.proofs.Nots.{not_true, true_not}
use Rattle.macho_tables.proofs.homes.lacks_home.Goals as goal

pub returns-then-table-gt0 : goal.returns-then-table-gt0
returns-then-table-gt0 c = (
  λ none. (c.if-table-gt0.true, λ has. not_true _ none (c.has_home.ensures.1 has)),
  λ homeless. true_not _ (λ has. homeless.1 (c.has_home.ensures.0 has)),
)
