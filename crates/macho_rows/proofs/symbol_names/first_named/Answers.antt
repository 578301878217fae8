use Rattle.std.proofs.Common.{◌∙◌, List, subst}
use Rattle.std.proofs.lemmas.Bool.{both_ways}
use Rattle.macho_image.specs.declared.symbol.Symbol.{Symbol}
use Rattle.macho_rows.specs.SymbolNames.{HasNameAmong, HasNone, IsFirst}
use Rattle.macho_rows.proofs.NamedSymbols.{first_left, rest_left, more_below, none_remain}
use Rattle.macho_rows.proofs.symbol_names.first_named.Goals as goal

pub returns-then-is_named : goal.returns-then-is_named
returns-then-is_named c =
    let all = c.into_iter-symbol-iterator.result in
    let P = HasNameAmong c.args.strings.now c.args.name.now in
    let at = first_left all c.loop-symbol.number c.in-Some.symbol c.next.new.self (c.loop-symbol.invariant.2 ∙ c.in-Some.ensures.steps) in
    subst (λ (symbols : List Symbol). IsFirst P symbols c.loop-symbol.number c.in-Some.symbol) c.into_iter-symbol-iterator.ensures.into_iter_gives
    (at, c.is_named.ensures.0 c.if-is_named.true, c.loop-symbol.invariant.3)

pub loop-symbol-preserved : goal.loop-symbol-preserved
loop-symbol-preserved c =
    let all = c.into_iter-symbol-iterator.result in
    let P = HasNameAmong c.args.strings.now c.args.name.now in
    let is = c.loop-symbol.invariant.2 ∙ c.in-Some.ensures.steps in
    let at = first_left all c.loop-symbol.number c.in-Some.symbol c.next.new.self is in (
      tt,
      tt,
      rest_left all c.loop-symbol.number c.in-Some.symbol c.next.new.self is,
      more_below P all c.loop-symbol.number c.in-Some.symbol c.loop-symbol.invariant.3 at (λ holds. both_ways c.is_named.result c.if-is_named.false (c.is_named.ensures.1 holds)),
    )

pub returns : goal.returns
returns c =
    let all = c.into_iter-symbol-iterator.result in
    let P = HasNameAmong c.args.strings.now c.args.name.now in
    subst (λ (symbols : List Symbol). HasNone P symbols) c.into_iter-symbol-iterator.ensures.into_iter_gives
    (none_remain P all c.loop-symbol.number c.loop-symbol.invariant.3 (c.loop-symbol.invariant.2 ∙ c.in-None.ensures.steps.0))
