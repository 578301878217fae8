use Rattle.std.proofs.Common.{◌∙◌, ◌++◌, List, length, take, refl, sym, ap, arith}
use Rattle.macho_image.specs.declared.symbol.Symbol.{Symbol}
use Rattle.macho_rows.proofs.SymbolWalks.{numbers_from, all_numbers, all_written}
use Rattle.macho_rows.proofs.symbol_index.write_addresses.Goals as goal

pub loop-symbol-init : goal.loop-symbol-init
loop-symbol-init c =
    let same = c.into_iter-symbol-iterator.ensures.into_iter_gives in (
      tt,
      tt,
      refl,
      omega arith,
      c.requires.room ∙ ap length (sym (all_numbers c.args.symbols) ∙ ap (numbers_from 0) (sym same)),
      omega (arith, c.requires.few, ap length same),
    )

pub returns : goal.returns
returns c =
    let all = c.into_iter-symbol-iterator.result in
    let front = ap (λ (left : List Symbol). take c.loop-symbol.written c.loop-symbol.index ++ numbers_from c.loop-symbol.number left) (sym c.in-None.ensures.steps.0) ∙ c.loop-symbol.invariant.2 in
    all_written c.loop-symbol.index (numbers_from 0 all) c.loop-symbol.written front c.loop-symbol.invariant.4
    ∙ (ap (numbers_from 0) c.into_iter-symbol-iterator.ensures.into_iter_gives ∙ all_numbers c.args.symbols)
