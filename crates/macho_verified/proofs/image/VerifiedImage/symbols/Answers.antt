use Rattle.std.proofs.Common.{◌∙◌, List, ℕ, map, ap, subst, rules}
use Rattle.macho_verified.specs.Image.{symbol_view}
use Rattle.macho_verified.proofs.Counted.{IsSymtab, all_taken, symbols_whole}
use Rattle.macho_verified.proofs.image.VerifiedImage.symbols.Goals as goal

pub returns-clause-symbols : goal.returns-clause-symbols
returns-clause-symbols c =
    let image = c.args.self.now in
    let read : IsSymtab image c.symtab.result = subst (λ (i : List ℕ). IsSymtab i c.symtab.result) c.self.view_is c.symtab.ensures in
    c.symbol_group.ensures.symbols ∙ ap (map (symbol_view image)) (all_taken image c.symbol_group.ensures.accepted c.symtab.result c.map_or-count.result read (search rules))

pub returns-clause-whole : goal.returns-clause-whole
returns-clause-whole c = symbols_whole c.args.self.now c.symbol_group.ensures.accepted _ (returns-clause-symbols c)
