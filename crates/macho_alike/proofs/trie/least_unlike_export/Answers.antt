use Rattle.std.proofs.Common.{◌≡◌, ◌↔◌, ℕ, IsTrue, subst, arith}
use Rattle.macho_fields.specs.Bytes.{bytes_of}
use Rattle.macho_image.specs.declared.symbol.Symbol.{Symbol}
use Rattle.macho_alike.specs.TrieSymbols.{IsUnlike}
use Rattle.macho_alike.proofs.TrieEnds.{IsLeastUpTo, ends_next, ends_before}
use Rattle.macho_alike.proofs.trie.least_unlike_export.Goals as goal

pub returns-then-named-branch : goal.returns-then-named-branch
returns-then-named-branch c =
    ends_before (bytes_of c.args.image) c.args.names.now c.requires.names c.args.branch c.requires.branch c.args.base c.args.export c.loop-index.index c.loop-index.auto.index c.loop-index-test.true
    c.loop-index.least c.loop-index.invariant c.if-named-branch.true

pub loop-index-preserved : goal.loop-index-preserved
loop-index-preserved c =
    ends_next (bytes_of c.args.image) c.args.names.now c.requires.names c.args.branch c.requires.branch c.args.base c.args.export c.loop-index.index c.loop-index.auto.index c.loop-index-test.true
    c.loop-index.least c.loop-index.invariant c.if-named-branch.false c.is_unlike.result c.least_with-least.result
    (subst (λ (symbol : Symbol). IsTrue c.is_unlike.result ↔ IsUnlike c.args.base c.args.export.flags c.args.export.address symbol) c.read-symbol.ensures c.is_unlike.ensures) c.least_with-least.ensures

pub returns : goal.returns
returns c =
    let last : c.loop-index.index ≡ c.args.branch.end = let upto = c.loop-index.auto.index-end c.requires.branch.ordered in omega (arith, upto, c.loop-index-test.false) in
    subst (λ (index : ℕ). IsLeastUpTo (bytes_of c.args.image) c.args.names.now c.args.branch c.args.base c.args.export index c.loop-index.least) last c.loop-index.invariant
