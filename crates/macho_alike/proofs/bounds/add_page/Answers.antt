use Rattle.std.proofs.Common.{◌≡◌, ◌∙◌, ◌+◌, ◌*◌, ℕ, List, sym, ap, subst}
use Rattle.macho_fields.specs.Bytes.{bytes_of}
use Rattle.macho_tables.specs.Fields.{half}
use Rattle.macho_chains.specs.ChainPointers.{page_start, first_offset, HasChain, ComesTo}
use Rattle.macho_chains.specs.declared.chain_starts.SegmentStarts.{SegmentStarts}
use Rattle.macho_alike.specs.Indirects.{IsPageBound}
use Rattle.macho_alike.specs.declared.bounds.Bound.{Bound}
use Rattle.macho_alike.proofs.ChainBounds.{Rest, first_comes, rest_of_page}
use Rattle.macho_alike.proofs.Gathered.{if_ok_same}
use Rattle.macho_alike.proofs.bounds.add_page.Goals as goal

-- the start that was read
is_start : (chains : List ℕ) (starts : SegmentStarts) (page number start : ℕ) → number ≡ page → start ≡ half chains (starts.offset + 22 + number * 2) → start ≡ page_start chains starts page
is_start chains starts page number start same is = is ∙ ap (λ (n : ℕ). half chains (starts.offset + 22 + n * 2)) same

-- and the offset of the first pointer
is_first : (chains : List ℕ) (starts : SegmentStarts) (page from wide start : ℕ) → from ≡ page * starts.page_size → wide ≡ start → start ≡ page_start chains starts page
    → from + wide ≡ first_offset chains starts page
is_first chains starts page from wide start at same is = ap (λ (n : ℕ). n + wide) at ∙ ap (λ (n : ℕ). page * starts.page_size + n) (same ∙ is)

pub add_chain-requires-clause-first : goal.add_chain-requires-clause-first
add_chain-requires-clause-first c =
    let image = c.args.segment.now.image in
    let segment = c.args.segment.now.place in
    let chains = bytes_of c.args.chains.bytes in
    let starts = c.args.starts in
    let page = c.args.page in
    let is = is_start chains starts page c.from.result c.half_at-start.result c.from.ensures c.half_at-start.ensures in
    let has : HasChain chains starts page = λ none. c.if-start.false (is ∙ none) in
    let at = is_first chains starts page c.page_offset.result c.from-2.result c.half_at-start.result c.page_offset.ensures.start c.from-2.ensures is in
    subst (ComesTo image chains segment starts page) (sym at) (first_comes image c.args.chains.start chains c.args.chains.header segment starts page c.requires.slots has)

pub returns : goal.returns
returns c =
    let image = c.args.segment.now.image in
    let segment = c.args.segment.now.place in
    let table = c.args.chains.start in
    let chains = bytes_of c.args.chains.bytes in
    let header = c.args.chains.header in
    let starts = c.args.starts in
    let page = c.args.page in
    let first = c.page_offset.result + c.from-2.result in
    let is = is_start chains starts page c.from.result c.half_at-start.result c.from.ensures c.half_at-start.ensures in
    let has : HasChain chains starts page = λ none. c.if-start.false (is ∙ none) in
    let at = is_first chains starts page c.page_offset.result c.from-2.result c.half_at-start.result c.page_offset.ensures.start c.from-2.ensures is in
    if_ok_same (Rest image table chains header segment starts page first) (λ (bound : Bound). IsPageBound image table chains header bound segment starts page) c.args.bounds.now.items
    c.add_chain.new.bounds.items c.add_chain.result (rest_of_page image table chains header segment starts page has first at) c.add_chain.ensures
