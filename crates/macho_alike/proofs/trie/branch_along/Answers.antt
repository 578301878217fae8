use Rattle.std.proofs.Common.{List, ℕ, true, false, subst}
use Rattle.macho_fields.specs.Bytes.{bytes_of}
use Rattle.macho_alike.specs.TrieWalks.{IsBound}
use Rattle.macho_alike.proofs.TrieBounds.{along_none, along_some}
use Rattle.macho_alike.proofs.trie.branch_along.Goals as goal

pub returns-then-first-end : goal.returns-then-first-end
returns-then-first-end c =
    let image = bytes_of c.args.image in
    along_none image (bytes_of c.args.trie) c.args.names.now c.requires.names c.args.parent c.requires.parent c.args.edge c.requires.label c.bound-first.result c.bound-end.result
    (subst (λ (label : List ℕ). IsBound image c.args.names.now c.args.parent label false c.bound-first.result) c.read_part-label.ensures c.bound-first.ensures)
    (subst (λ (label : List ℕ). IsBound image c.args.names.now c.args.parent label true c.bound-end.result) c.read_part-label.ensures c.bound-end.ensures)
    c.if-first-end.true

pub returns : goal.returns
returns c =
    let image = bytes_of c.args.image in
    along_some image (bytes_of c.args.trie) c.args.names.now c.requires.names c.args.parent c.requires.parent c.args.edge c.requires.label c.bound-first.result c.bound-end.result
    (subst (λ (label : List ℕ). IsBound image c.args.names.now c.args.parent label false c.bound-first.result) c.read_part-label.ensures c.bound-first.ensures)
    (subst (λ (label : List ℕ). IsBound image c.args.names.now c.args.parent label true c.bound-end.result) c.read_part-label.ensures c.bound-end.ensures)
    c.if-first-end.false
