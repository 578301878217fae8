use Rattle.std.proofs.Common.{ap₂, sym}
use Rattle.std.proofs.lemmas.Bool.{both_ways}
use Rattle.macho_alike.specs.SymbolModels.{Defined, Local, Undefined}
use Rattle.macho_explain.proofs.symbol_kind.own_group.Goals as goal

pub returns-then-not-is_external : goal.returns-then-not-is_external
returns-then-not-is_external c = (
  Local,
  λ external. both_ways c.is_external.result c.if-not-is_external.true (c.is_external.ensures.1 external),
  ap₂ (λ a b. (a, b)) (sym c.group.ensures.0) (sym c.group.ensures.1),
)

pub returns-then-is_of_another : goal.returns-then-is_of_another
returns-then-is_of_another c = (
  Undefined,
  (c.is_external.ensures.0 c.if-not-is_external.false, c.is_of_another.ensures.0 c.if-is_of_another.true),
  ap₂ (λ a b. (a, b)) (sym c.group-then-is_of_another.ensures.0) (sym c.group-then-is_of_another.ensures.1),
)

pub returns : goal.returns
returns c = (
  Defined,
  (c.is_external.ensures.0 c.if-not-is_external.false, λ another. both_ways c.is_of_another.result c.if-is_of_another.false (c.is_of_another.ensures.1 another)),
  ap₂ (λ a b. (a, b)) (sym c.group-2.ensures.0) (sym c.group-2.ensures.1),
)
