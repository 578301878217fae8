use Rattle.std.proofs.Common.{length, rules}
use Rattle.std.proofs.lemmas.List.Sorted.{IsNonDecreasingBy-from_sort_by_key}
use Rattle.macho_tables.proofs.Places.{least_same}
use Rattle.macho_alike.specs.BindLists.{slot_number, ClashAt}
use Rattle.macho_alike.proofs.BindPairs.{inside_moved, at_moved}
use Rattle.macho_alike.proofs.binds.least_clash.Goals as goal

pub least_sorted-requires-clause-inside : goal.least_sorted-requires-clause-inside
least_sorted-requires-clause-inside c =
    inside_moved c.args.image.now c.args.binds.now c.sort_unstable_by_key.new.self c.sort_unstable_by_key.ensures.permutation (length c.args.image.now) c.requires

pub least_sorted-requires-clause-sorted : goal.least_sorted-requires-clause-sorted
least_sorted-requires-clause-sorted c = IsNonDecreasingBy-from_sort_by_key (λ bind. slot_number bind) _ c.sort_unstable_by_key.ensures.sorted (λ a r q k. search rules)

pub returns : goal.returns
returns c =
    let image = c.args.image.now in
    let old = c.args.binds.now in
    let new = c.sort_unstable_by_key.new.self in
    least_same (ClashAt image new) (ClashAt image old) c.least_sorted.result (at_moved image old new c.sort_unstable_by_key.ensures.permutation) c.least_sorted.ensures
