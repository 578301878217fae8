use Rattle.std.proofs.Common.{◌∙◌, ◌++◌, ◌^◌, List, length, drop, ap, subst, subst₂}
use Rattle.macho_image.specs.declared.symbol.Symbol.{Symbol}
use Rattle.macho_fields.specs.Bytes.{bytes_of}
use Rattle.macho_rows.specs.Image.{image_in}
use Rattle.macho_rows.specs.SymbolIndex.{symbols_shown, addresses, IsIndex, IsIndexed}
use Rattle.macho_rows.proofs.ShownSymbols.{few_are, shown_are, shown_seen}
use Rattle.macho_rows.proofs.SymbolWalks.{indexed, unindexed}
use Rattle.macho_c.proofs.symbol_index.kesvuot_index_symbols.Goals as goal

pub count_addresses-count-requires : goal.count_addresses-count-requires
count_addresses-count-requires c = few_are (2 ^ 32) c.indexed.result _ c.indexed.ensures

pub returns-then-count-index-clause-index : goal.returns-then-count-index-clause-index
returns-then-count-index-clause-index c =
    let file = c.args.file.now in
    let row = c.args.image.now in
    let image = image_in file row in
    let same = shown_are image (bytes_of c.of-table.result.bytes) row c.of-table.result.image.now c.indexed.result c.indexed.ensures c.of-table.ensures.bytes c.of-table.ensures.image in
    indexed (symbols_shown image row) c.count_addresses-count.result c.args.index.now c.write_index.new.index
    (c.count_addresses-count.ensures ∙ ap (λ (symbols : List Symbol). length (addresses symbols)) same) c.if-count-index.true
    (subst₂ (λ bytes held. IsIndex (symbols_shown bytes held) c.write_index.new.index) c.of-table.ensures.bytes c.of-table.ensures.image c.write_index.ensures)

pub returns-then-count-index-clause-all : goal.returns-then-count-index-clause-all
returns-then-count-index-clause-all c = λ shows.
    let count = c.count_addresses-count.result in
    subst (λ (symbols : List Symbol). IsIndexed symbols count c.args.index.now (c.write_index.new.index ++ drop count c.args.index.now))
    (shown_seen c.args.file.now c.args.image.now shows) (returns-then-count-index-clause-index c)

pub returns-else-count-index-clause-index : goal.returns-else-count-index-clause-index
returns-else-count-index-clause-index c =
    let file = c.args.file.now in
    let row = c.args.image.now in
    let image = image_in file row in
    let same = shown_are image (bytes_of c.of-table.result.bytes) row c.of-table.result.image.now c.indexed.result c.indexed.ensures c.of-table.ensures.bytes c.of-table.ensures.image in
    unindexed (symbols_shown image row) c.count_addresses-count.result c.args.index.now
    (c.count_addresses-count.ensures ∙ ap (λ (symbols : List Symbol). length (addresses symbols)) same) c.if-count-index.false

pub returns-else-count-index-clause-all : goal.returns-else-count-index-clause-all
returns-else-count-index-clause-all c = λ shows.
    subst (λ (symbols : List Symbol). IsIndexed symbols c.count_addresses-count.result c.args.index.now c.args.index.now)
    (shown_seen c.args.file.now c.args.image.now shows) (returns-else-count-index-clause-index c)
