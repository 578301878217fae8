use Rattle.std.proofs.Common.{length, rules, None}
use Rattle.std.proofs.lemmas.List.Sorted.{IsNonDecreasingBy-from_sort_by_key}
use Rattle.macho_tables.proofs.Places.{least_same}
use Rattle.macho_alike.specs.BindLists.{slot_number, ClashAt}
use Rattle.macho_alike.proofs.BindPairs.{inside_moved, at_moved}
use Rattle.macho_alike.proofs.BindRenames.{renamed_inside, renamed_at}
use Rattle.macho_alike.proofs.binds.least_shared.Goals as goal

pub agree-requires-clause-inside : goal.agree-requires-clause-inside
agree-requires-clause-inside c =
    inside_moved c.args.image.now c.args.binds.now c.sort_unstable_by_key.new.self c.sort_unstable_by_key.ensures.permutation (length c.args.image.now) c.requires

pub agree-requires-clause-sorted : goal.agree-requires-clause-sorted
agree-requires-clause-sorted c = IsNonDecreasingBy-from_sort_by_key (λ bind. slot_number bind) _ c.sort_unstable_by_key.ensures.sorted (λ a r q k. search rules)

pub returns-then-agree-clause-least : goal.returns-then-agree-clause-least
returns-then-agree-clause-least c =
    let image = c.args.image.now in
    let old = c.args.binds.now in
    let sorted = c.sort_unstable_by_key.new.self in
    least_same (ClashAt image sorted) (ClashAt image old) None (at_moved image old sorted c.sort_unstable_by_key.ensures.permutation) (c.agree.ensures c.if-agree.true)

pub share_names-requires : goal.share_names-requires
share_names-requires c =
    let image = c.args.image.now in
    let old = c.args.binds.now in
    let sorted = c.sort_unstable_by_key.new.self in
    inside_moved image sorted c.sort_unstable_by_key-2.new.self c.sort_unstable_by_key-2.ensures.permutation (length image)
    (inside_moved image old sorted c.sort_unstable_by_key.ensures.permutation (length image) c.requires)

pub least_clash-requires : goal.least_clash-requires
least_clash-requires c =
    let image = c.args.image.now in
    let old = c.args.binds.now in
    let sorted = c.sort_unstable_by_key.new.self in
    let named = c.sort_unstable_by_key-2.new.self in
    renamed_inside image named _ c.in_ok-share_names.ensures.renamed
    (inside_moved image sorted named c.sort_unstable_by_key-2.ensures.permutation (length image)
    (inside_moved image old sorted c.sort_unstable_by_key.ensures.permutation (length image) c.requires))

pub returns-clause-least : goal.returns-clause-least
returns-clause-least c =
    let image = c.args.image.now in
    let old = c.args.binds.now in
    let sorted = c.sort_unstable_by_key.new.self in
    let named = c.sort_unstable_by_key-2.new.self in
    least_same (ClashAt image sorted) (ClashAt image old) c.least_clash.result (at_moved image old sorted c.sort_unstable_by_key.ensures.permutation)
    (least_same (ClashAt image named) (ClashAt image sorted) c.least_clash.result (at_moved image sorted named c.sort_unstable_by_key-2.ensures.permutation)
    (least_same _ (ClashAt image named) c.least_clash.result (renamed_at image named _ c.in_ok-share_names.ensures.renamed) c.least_clash.ensures))
