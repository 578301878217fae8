use Rattle.std.proofs.Common.{◌≡◌, ap, arith, rules, subst}
use Rattle.std.specs.List.Sorted.{IsSortedBy}
use Rattle.std.specs.Ordering.{is_lt}
use Rattle.std.proofs.lemmas.List.MinMax.{ranks_by}
use Rattle.std.proofs.lemmas.Fn.{always_returns_same}
use Rattle.macho_fields.specs.Bytes.{bytes_of}
use Rattle.macho_alike.specs.Names.{IsNamed, by_text}
use Rattle.macho_alike.proofs.NameLists.{moved_alike, named_inside}
use Rattle.macho_alike.proofs.NameOrder.{by_text_total, sorted_by_name}
use Rattle.macho_alike.proofs.names.names_of.Goals as goal

pub returns-clause-named : goal.returns-clause-named
returns-clause-named c =
    moved_alike (IsNamed c.args.image.now) c.in_ok-names.names.items c.sort_unstable_by.new.self.items c.sort_unstable_by.ensures.permutation c.in_ok-names.ensures.named

pub returns-clause-inside : goal.returns-clause-inside
returns-clause-inside c one has =
    let are = moved_alike (IsNamed c.args.image.now) c.in_ok-names.names.items c.sort_unstable_by.new.self.items c.sort_unstable_by.ensures.permutation c.in_ok-names.ensures.named in
    named_inside c.args.image.now c.requires one ((are one).0 has)

pub returns-clause-sorted : goal.returns-clause-sorted
returns-clause-sorted c =
    let image = c.args.image.now in
    let are = moved_alike (IsNamed image) c.in_ok-names.names.items c.sort_unstable_by.new.self.items c.sort_unstable_by.ensures.permutation c.in_ok-names.ensures.named in
    sorted_by_name image c.sort_unstable_by.new.self.items (λ one has. let less = named_inside image c.requires one ((are one).0 has) in omega (arith, less))
    (subst (λ xs. IsSortedBy (λ a b. is_lt (by_text xs a b)) c.sort_unstable_by.new.self.items) c.bytes-bytes.ensures.bytes
    (c.sort_unstable_by.ensures.sorted (λ a b. is_lt (by_text (bytes_of c.bytes-bytes.result) a b)) (ranks_by (by_text_total (bytes_of c.bytes-bytes.result)) (λ n. n)) (always_returns_same _ _ _ (λ a r q k.
    let is : r ≡ by_text (bytes_of c.bytes-bytes.result) a.0.now a.1.0.now = search rules in (ap is_lt is, search rules)))))
