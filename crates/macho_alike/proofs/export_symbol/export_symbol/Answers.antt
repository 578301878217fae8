use Rattle.std.proofs.Common.{List, ◌↔◌, Contains, sym, subst}
use Rattle.macho_fields.specs.FirstPlace.{IsLeastPlace}
use Rattle.macho_tables.proofs.Places.{least_joined}
use Rattle.macho_alike.specs.Definitions.{BreaksDefinition}
use Rattle.macho_alike.specs.ExportSymbols.{BreaksExportSymbol}
use Rattle.macho_alike.specs.Names.{IsNamed}
use Rattle.macho_alike.specs.TrieSymbols.{BreaksTrieSymbol}
use Rattle.macho_alike.specs.declared.names.Named.{Named}
use Rattle.macho_alike.proofs.export_symbol.export_symbol.Goals as goal

pub definition_among-defined-requires-clause-named : goal.definition_among-defined-requires-clause-named
definition_among-defined-requires-clause-named c =
    subst (λ (names : List Named). (one : Named) → Contains names one ↔ IsNamed c.args.image.now one) (sym c.deref.ensures.value) c.in_ok-names.ensures.named

pub unlike_trie-requires-clause-named : goal.unlike_trie-requires-clause-named
unlike_trie-requires-clause-named c =
    subst (λ (names : List Named). (one : Named) → Contains names one ↔ IsNamed c.args.image.now one) (sym c.deref-2.ensures.value) c.in_ok-names.ensures.named

pub returns-clause-least : goal.returns-clause-least
returns-clause-least c =
    let image = c.args.image.now in
    subst (IsLeastPlace (BreaksExportSymbol image)) (sym c.lesser.ensures)
    (least_joined (BreaksDefinition image) (BreaksTrieSymbol image) c.definition_among-defined.result c.in_ok-exported.exported c.definition_among-defined.ensures c.in_ok-exported.ensures.least)
