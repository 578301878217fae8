use Rattle.std.proofs.Common.{◌↔◌, List, Contains, sym, subst}
use Rattle.macho_alike.specs.Names.{IsNamed}
use Rattle.macho_alike.specs.declared.names.Named.{Named}
use Rattle.macho_alike.proofs.definitions.definition.Goals as goal

pub definition_among-requires-clause-named : goal.definition_among-requires-clause-named
definition_among-requires-clause-named c =
    subst (λ (names : List Named). (one : Named) → Contains names one ↔ IsNamed c.args.image.now one) (sym c.deref.ensures.value) c.in_ok-names.ensures.named
