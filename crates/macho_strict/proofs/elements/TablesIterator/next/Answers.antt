use Rattle.std.proofs.Common.{All, subst, arith}
use Rattle.std.proofs.lemmas.List.Elements.{All-tail}
use Rattle.macho_fields.specs.Bytes.{bytes_of}
use Rattle.macho_strict.specs.ElementWalk.{HoldsTable}
use Rattle.macho_strict.proofs.ElementWalks.{size_fits}
use Rattle.macho_strict.proofs.elements.TablesIterator.next.Goals as goal

pub overflow_mul-len : goal.overflow_mul-len
overflow_mul-len c =
    let first : HoldsTable (bytes_of c.self.inside.image) c.self.inside.command c.in_ok-fields.fields.now = subst (All (HoldsTable (bytes_of c.self.inside.image) c.self.inside.command)) c.in_ok-fields.ensures.cases.0 c.self.invariant 0 c.in_ok-fields.fields.now (omega arith) in
    size_fits c.item_count-count.result _ c.in_ok-fields.fields.now.item_size c.item_count-count.ensures.near first.near

pub invariant_of-self : goal.invariant_of-self
invariant_of-self c =
    All-tail (HoldsTable (bytes_of c.self.inside.image) c.self.inside.command) c.in_ok-fields.fields.now c.in_ok-fields.rest.now
    (subst (All (HoldsTable (bytes_of c.self.inside.image) c.self.inside.command)) c.in_ok-fields.ensures.cases.0 c.self.invariant)
