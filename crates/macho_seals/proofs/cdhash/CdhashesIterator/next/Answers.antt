use Rattle.std.proofs.Common.{sym, ◌∙◌, arith}
use Rattle.macho_fields.specs.Bytes.{bytes_of}
use Rattle.macho_seals.proofs.CdhashLists.{from_found, from_skipped, from_end, yields, comes_nearer, none_of}
use Rattle.macho_seals.proofs.cdhash.CdhashesIterator.next.Goals as goal

pub overflow_add-self : goal.overflow_add-self
overflow_add-self c = omega (arith, c.loop-self-test.true, c.loop-self.invariant.same, c.self.ranges)

pub returns-then-is_some-clause-steps : goal.returns-then-is_some-clause-steps
returns-then-is_some-clause-steps c =
    let walk = c.loop-self.self-inside in
    yields _ _ c.cdhash_at-found.result (sym c.if-is_some.ensures)
    (λ d is. c.loop-self.invariant.left ∙ from_found (bytes_of walk.signature) walk.index walk.count c.loop-self-test.true c.cdhash_at-found.result c.cdhash_at-found.ensures d is)

pub returns-then-is_some-clause-goes : goal.returns-then-is_some-clause-goes
returns-then-is_some-clause-goes c =
    let walk = c.loop-self.self-inside in
    comes_nearer _ _ c.cdhash_at-found.result (sym c.if-is_some.ensures)
    (λ d is. c.loop-self.invariant.left ∙ from_found (bytes_of walk.signature) walk.index walk.count c.loop-self-test.true c.cdhash_at-found.result c.cdhash_at-found.ensures d is)

pub loop-self-preserved : goal.loop-self-preserved
loop-self-preserved c =
    let walk = c.loop-self.self-inside in
    record {
      count = c.loop-self.invariant.count;
      same = c.loop-self.invariant.same;
      left = c.loop-self.invariant.left ∙ from_skipped (bytes_of walk.signature) walk.index walk.count c.loop-self-test.true c.cdhash_at-found.result c.cdhash_at-found.ensures
          (none_of c.cdhash_at-found.result (sym c.if-is_some.ensures));
    }

pub returns-clause-steps : goal.returns-clause-steps
returns-clause-steps c =
    let walk = c.loop-self.self-inside in
    let none = from_end (bytes_of walk.signature) walk.index walk.count c.loop-self-test.false in
    (c.loop-self.invariant.left ∙ none, none)
