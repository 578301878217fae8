use Rattle.std.proofs.Common.{ℕ}
use Rattle.macho_image.specs.Symbol.{symbol_at}
use Rattle.macho_alike.specs.Definitions.{DisagreesEarlier}
use Rattle.macho_alike.specs.Symbols.{IsSeenTwice}
use Rattle.macho_explain.proofs.BrokenAlike.{bind_once, export_edge}
use Rattle.macho_explain.proofs.LinkedSymbols.{symbol}
use Rattle.macho_explain.proofs.readers_law.broken_name_rule_is_about.Goals as goal

pub returns-clause-bind_once : goal.returns-clause-bind_once
returns-clause-bind_once c = λ keeps place broken. bind_once c.args.image.now keeps place broken

pub returns-clause-export_edge : goal.returns-clause-export_edge
returns-clause-export_edge c = λ keeps place broken. export_edge c.args.image.now keeps place broken

pub returns-clause-symbol_kind : goal.returns-clause-symbol_kind
returns-clause-symbol_kind c = λ keeps place broken.
    let image = c.args.image.now in symbol image keeps (λ (symtab s : ℕ). IsSeenTwice image symtab (symbol_at image s)) place broken

pub returns-clause-definition : goal.returns-clause-definition
returns-clause-definition c = λ keeps place broken.
    let image = c.args.image.now in symbol image keeps (DisagreesEarlier image) place broken
