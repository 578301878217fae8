use Rattle.std.proofs.Common.{◌∙◌, ◌+◌, ◌-◌, ◌/◌, sym, ap, arith}
use Rattle.std.specs.declared.cmp.Ordering.{Ordering}
use Rattle.macho_fields.specs.Bytes.{bytes_of}
use Rattle.macho_alike.specs.TrieWalks.{is_before}
use Rattle.macho_alike.proofs.TrieBounds.{searched_start, searched_up, searched_down, searched_end}
use Rattle.macho_alike.proofs.trie.bound.Goals as goal

pub loop-low-init : goal.loop-low-init
loop-low-init c = searched_start (bytes_of c.args.image) c.args.names.now c.args.branch c.requires.branch c.args.label.now c.args.over

pub bounds-names-middle : goal.bounds-names-middle
bounds-names-middle c =
    let to = c.loop-low.invariant.to in
    let within = c.requires.branch.inside in
    omega (arith, to, within, c.loop-low-test.true)

pub compare-requires-clause-inside : goal.compare-requires-clause-inside
compare-requires-clause-inside c =
    let to = c.loop-low.invariant.to in
    let within = c.requires.branch.inside in
    c.requires.names.spans (c.loop-low.low + (c.loop-low.high - c.loop-low.low) / 2) (omega (arith, to, within, c.loop-low-test.true))

pub compare-requires-clause-deep : goal.compare-requires-clause-deep
compare-requires-clause-deep c =
    let from = c.loop-low.invariant.from in
    let to = c.loop-low.invariant.to in
    c.requires.branch.deep (c.loop-low.low + (c.loop-low.high - c.loop-low.low) / 2) (omega (arith, from)) (omega (arith, to, c.loop-low-test.true))

pub loop-low-preserved-then-is_before : goal.loop-low-preserved-then-is_before
loop-low-preserved-then-is_before c =
    let middle = c.loop-low.low + (c.loop-low.high - c.loop-low.low) / 2 in
    searched_up (bytes_of c.args.image) c.args.names.now c.args.branch c.requires.branch c.args.label.now c.args.over c.loop-low.low c.loop-low.high middle c.loop-low.invariant
    (omega arith) (omega (arith, c.loop-low-test.true)) (sym (ap (λ (o : Ordering). is_before c.args.over o) c.compare.ensures) ∙ (sym c.is_before.ensures ∙ c.if-is_before.true))

pub loop-low-preserved : goal.loop-low-preserved
loop-low-preserved c =
    let middle = c.loop-low.low + (c.loop-low.high - c.loop-low.low) / 2 in
    searched_down (bytes_of c.args.image) c.args.names.now c.args.branch c.requires.branch c.args.label.now c.args.over c.loop-low.low c.loop-low.high middle c.loop-low.invariant
    (omega arith) (omega (arith, c.loop-low-test.true)) (sym (ap (λ (o : Ordering). is_before c.args.over o) c.compare.ensures) ∙ (sym c.is_before.ensures ∙ c.if-is_before.false))

pub returns : goal.returns
returns c =
    searched_end (bytes_of c.args.image) c.args.names.now c.args.branch c.requires.branch c.args.label.now c.args.over c.loop-low.low c.loop-low.high c.loop-low.invariant c.loop-low-test.false
