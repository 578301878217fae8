use Rattle.std.proofs.Common.{◌<◌, refl, rules, arith}
use Rattle.macho_spans.specs.Span.{end_of, Shares}
use Rattle.macho_spans.specs.Overlap.{item_at}
use Rattle.macho_spans.proofs.overlap.shares_below.Goals as goal

-- the item starts before the end of one that was passed, and no earlier than that one starts
pub returns-then-from-end : goal.returns-then-from-end
returns-then-from-end c =
    let items = c.args.items.now in
    let (p, less, in_p, ends) = c.loop-item.invariant.last (omega (arith, c.if-from-end.true)) in
    let q = c.loop-item.item-index in
    let rises = c.requires p q (record { span = record { start = 0; len = 0 }; index = 0 }) (omega arith) c.loop-item-test.true in
    let inside : (item_at items q).span.start < end_of (item_at items p).span = omega (arith, ends, c.from.ensures, c.if-from-end.true) in
    let place : Shares (item_at items p).span (item_at items q).span = ((item_at items q).span.start, (rises, inside), (omega arith, search rules)) in
    (λ _. (q, p, less, c.loop-item-test.true, in_p, c.if-item-count.true, place), λ _. refl)
