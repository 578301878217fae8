use Rattle.std.proofs.Common.{rules}
use Rattle.std.proofs.lemmas.List.Sorted.{IsPartitionPoint-from_clause, IsPartitionedBy-ltb}
use Rattle.macho_alike.specs.Bounds.{location}
use Rattle.macho_alike.specs.declared.bounds.Bound.{Bound}
use Rattle.macho_alike.proofs.Between.{is_below, rest, rest_sorted, all_between}
use Rattle.macho_alike.proofs.indirects.bounds_between.Goals as goal

pub returns-clause-all : goal.returns-clause-all
returns-clause-all c =
    let bounds = c.args.bounds.now in
    let first = c.partition_point-first.result in
    let point = IsPartitionPoint-from_clause (is_below c.args.low) bounds first c.partition_point-first.ensures.partitioned
    (IsPartitionedBy-ltb (λ (b : Bound). location b) bounds c.args.low c.requires.sorted) (λ a r q k. search rules) in
    let next = IsPartitionPoint-from_clause (is_below c.args.high) (rest bounds first) c.partition_point-count.result c.partition_point-count.ensures.partitioned
    (IsPartitionedBy-ltb (λ (b : Bound). location b) (rest bounds first) c.args.high (rest_sorted bounds first c.requires.sorted)) (λ a r q k. search rules) in
    all_between bounds first c.args.low c.args.high c.partition_point-count.result point next
