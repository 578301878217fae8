use Rattle.std.proofs.Common.{rules}
use Rattle.std.proofs.lemmas.List.Sorted.{answers_always}
use Rattle.macho_readers.specs.declared.names.Named.{Named}
use Rattle.macho_readers.proofs.SameNames.{grouped_by, least_moved}
use Rattle.macho_readers.proofs.names.least_repeated.Goals as goal

pub least_in_groups-requires : goal.least_in_groups-requires
least_in_groups-requires c =
    grouped_by c.sort_unstable_by_key.new.self (c.sort_unstable_by_key.ensures.sorted (λ (n : Named). (n.segment, n.section)) (answers_always _ _ _ (λ f a r g h. search rules)))

pub returns : goal.returns
returns c = least_moved c.args.items.now c.sort_unstable_by_key.new.self c.least_in_groups.result c.sort_unstable_by_key.ensures.permutation c.least_in_groups.ensures
