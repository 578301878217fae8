use Rattle.std.proofs.Common.{◌∙◌}
use Rattle.macho_image.specs.Symbol.{symbol_at}
use Rattle.macho_symbols.proofs.SymbolWalks.{none_noted, noted_more, all_noted, no_symbols}
use Rattle.macho_symbols.specs.Symbols.{LacksLibrary, IsAstraySymbol, IsEndless}
use Rattle.macho_symbols.proofs.symbols.SymbolSurvey.of.Goals as goal

pub loop-symbol-init : goal.loop-symbol-init
loop-symbol-init c = (tt, tt, none_noted c.args.image.now _ c.in_ok-limits.limits c.in_ok-limits.ensures.limits)

pub loop-symbol-preserved : goal.loop-symbol-preserved
loop-symbol-preserved c =
    let image = c.args.image.now in
    let are = c.into_iter-symbol-iterator.ensures.into_iter_gives ∙ c.symbols-symbol-items.ensures in
    let noted = c.loop-symbol.invariant.2 in
    let kept = noted.kept in (
      tt,
      tt,
      noted_more image _ are _ _ c.in-Some.symbol c.in-Some.ensures.steps c.loop-symbol.limits c.note.new.limits c.loop-symbol.survey c.note.new.self noted
          (c.note.ensures.same image kept) c.note.ensures.end (c.note.ensures.library image kept) (c.note.ensures.value image kept) c.note.ensures.indirect,
    )

pub returns-then-symbol_count-eq0-clause-least : goal.returns-then-symbol_count-eq0-clause-least
returns-then-symbol_count-eq0-clause-least c =
    let image = c.args.image.now in
    let none = no_symbols image c.requires c.symbol_count.result c.symbol_count.ensures c.if-symbol_count-eq0.true in record {
      library = none (λ symtab symbol. LacksLibrary image (symbol_at image symbol));
      value = none (λ symtab symbol. IsAstraySymbol image (symbol_at image symbol));
      indirect = none (λ symtab symbol. IsEndless image symtab (symbol_at image symbol));
    }

pub returns-clause-least : goal.returns-clause-least
returns-clause-least c =
    let are = c.into_iter-symbol-iterator.ensures.into_iter_gives ∙ c.symbols-symbol-items.ensures in
    all_noted c.args.image.now _ are c.requires _ c.in-None.ensures.steps.0 c.loop-symbol.limits c.loop-symbol.survey c.loop-symbol.invariant.2
