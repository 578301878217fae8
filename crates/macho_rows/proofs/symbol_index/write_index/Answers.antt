use Rattle.std.proofs.Common.{◌∙◌, ◌^◌, List, ℕ, ap, subst, rules}
use Rattle.std.specs.Prelude.{IsPermutation}
use Rattle.std.specs.List.Sorted.{IsNonDecreasingBy}
use Rattle.std.proofs.lemmas.List.Sorted.{IsNonDecreasingBy-from_sort_by_key}
use Rattle.macho_image.specs.declared.symbol.Symbol.{Symbol}
use Rattle.macho_rows.specs.SymbolIndex.{addresses, sort_key}
use Rattle.macho_rows.proofs.ShownSymbols.{few_are}
use Rattle.macho_rows.proofs.symbol_index.write_index.Goals as goal

pub write_addresses-requires-clause-few : goal.write_addresses-requires-clause-few
write_addresses-requires-clause-few c = few_are (2 ^ 32) c.indexed.result _ c.indexed.ensures

pub returns : goal.returns
returns c =
    let sorted = c.sort_unstable_by_key.new.self in (
      subst (λ (numbers : List ℕ). IsPermutation numbers sorted) (c.write_addresses.ensures ∙ ap addresses c.indexed.ensures) c.sort_unstable_by_key.ensures.permutation,
      subst (λ (symbols : List Symbol). IsNonDecreasingBy (sort_key symbols) sorted) c.indexed-symbols.ensures
          (IsNonDecreasingBy-from_sort_by_key (sort_key c.indexed-symbols.result) _ c.sort_unstable_by_key.ensures.sorted (λ a r q k. search rules)),
    )
