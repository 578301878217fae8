use Rattle.std.proofs.Common.{◌≡◌, ◌∙◌, length, sym, subst, arith}
use Rattle.std.proofs.lemmas.Bool.{false≢true}
use Rattle.macho_readers.proofs.SameNames.{Walked, walked_other, walked_lower, walked_higher, walked_same, walked_all}
use Rattle.macho_readers.proofs.names.least_in_groups.Goals as goal
use Rattle.macho_readers.proofs.names.least_in_groups.Goals.{then-not-has_same_names, else-not-has_same_names+then-item-first, else-not-has_same_names+else-item-first+then-first-item, else-not-has_same_names+else-item-first+else-first-item}

pub loop-item-preserved : goal.loop-item-preserved
loop-item-preserved c =
    let items = c.args.items.now in
    let n = c.loop-item.item-index in
    let first = c.loop-item.first in
    let found = c.loop-item.found in
    let less = c.loop-item-test.true in
    let walked = c.loop-item.invariant in
    elim c.if-not-has_same_names.branch [
      | then-not-has_same_names w ↦ rw (w.first-is, w.found-is) (walked_other items c.requires n less first found walked (λ same. false≢true (sym w.if-not-has_same_names.true ∙ c.has_same_names.ensures.1 same)))
      | else-not-has_same_names+then-item-first w ↦ rw (w.first-is, w.found-is, w.lesser-found.ensures)
          (walked_lower items c.requires n less first found walked (c.has_same_names.ensures.0 w.if-not-has_same_names.false) w.if-item-first.true)
      | else-not-has_same_names+else-item-first+then-first-item w ↦ rw (w.first-is, w.found-is, w.lesser-found-then-first-item.ensures)
          (walked_higher items c.requires n less first found walked (c.has_same_names.ensures.0 w.if-not-has_same_names.false) w.if-first-item.true)
      | else-not-has_same_names+else-item-first+else-first-item w ↦ rw (w.first-is, w.found-is)
          (walked_same items c.requires n less first found walked (c.has_same_names.ensures.0 w.if-not-has_same_names.false) (omega (arith, w.if-item-first.false, w.if-first-item.false)))
    ]

pub returns : goal.returns
returns c =
    let items = c.args.items.now in
    let all : c.loop-item.item-index ≡ length items = omega (arith, c.loop-item-test.false, c.loop-item.auto.item-index-end) in
    walked_all items c.loop-item.first c.loop-item.found (subst (λ n. Walked items n c.loop-item.first c.loop-item.found) all c.loop-item.invariant)
