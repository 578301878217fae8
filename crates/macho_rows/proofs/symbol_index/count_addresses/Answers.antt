use Rattle.std.proofs.Common.{◌≡◌, ◌∙◌, List, length, filter, ap, arith}
use Rattle.macho_image.specs.declared.symbol.Symbol.{Symbol}
use Rattle.macho_rows.proofs.SymbolWalks.{has, addresses_counted}
use Rattle.macho_rows.proofs.symbol_index.count_addresses.Goals as goal

pub returns : goal.returns
returns c =
    let symbols = c.into_iter-symbol-iterator.result in
    let counted = c.loop-symbol.invariant.2 in
    let none = ap (λ (left : List Symbol). length (filter has left)) c.in-None.ensures.steps.0 in
    let all : c.loop-symbol.count ≡ length (filter has symbols) = omega (arith, counted, none) in
    all ∙ (ap (λ (s : List Symbol). length (filter has s)) c.into_iter-symbol-iterator.ensures.into_iter_gives ∙ addresses_counted c.args.symbols)
