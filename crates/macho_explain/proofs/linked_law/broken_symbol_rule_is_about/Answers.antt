use Rattle.std.proofs.Common.{ℕ}
use Rattle.macho_image.specs.Symbol.{symbol_at}
use Rattle.macho_symbols.specs.Symbols.{IsAstraySymbol, IsEndless, LacksLibrary}
use Rattle.macho_explain.proofs.LinkedSymbols.{init_offset, relocation, symbol}
use Rattle.macho_explain.proofs.linked_law.broken_symbol_rule_is_about.Goals as goal

pub returns-clause-symbol_library : goal.returns-clause-symbol_library
returns-clause-symbol_library c = λ keeps place broken.
    let image = c.args.image.now in symbol image keeps (λ (symtab s : ℕ). LacksLibrary image (symbol_at image s)) place broken

pub returns-clause-symbol_value : goal.returns-clause-symbol_value
returns-clause-symbol_value c = λ keeps place broken.
    let image = c.args.image.now in symbol image keeps (λ (symtab s : ℕ). IsAstraySymbol image (symbol_at image s)) place broken

pub returns-clause-symbol_indirect : goal.returns-clause-symbol_indirect
returns-clause-symbol_indirect c = λ keeps place broken.
    let image = c.args.image.now in symbol image keeps (λ (symtab s : ℕ). IsEndless image symtab (symbol_at image s)) place broken

pub returns-clause-relocation : goal.returns-clause-relocation
returns-clause-relocation c = λ keeps place broken. relocation c.args.image.now keeps place broken

pub returns-clause-init_offset : goal.returns-clause-init_offset
returns-clause-init_offset c = λ keeps place broken. init_offset c.args.image.now keeps place broken
