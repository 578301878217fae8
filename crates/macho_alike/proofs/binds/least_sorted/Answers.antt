use Rattle.std.proofs.Common.{length, sym, ◌∙◌}
use Rattle.std.proofs.lemmas.Bool.{false≢true}
use Rattle.macho_alike.proofs.BindPairs.{least_of_limit, none_of_limit}
use Rattle.macho_alike.proofs.binds.least_sorted.Goals as goal

pub returns-then-clash_by : goal.returns-then-clash_by
returns-then-clash_by c = least_of_limit c.args.image.now c.args.binds.now c.least_place.result c.least_place.ensures.some c.least_place.ensures.least

pub returns-else-clash_by : goal.returns-else-clash_by
returns-else-clash_by c =
    none_of_limit c.args.image.now c.args.binds.now (length c.args.image.now) c.requires.inside
    (λ clash. false≢true (sym c.if-clash_by.false ∙ c.clash_by.ensures.1 (rw (c.len.ensures.count, c.bytes.ensures.bytes) clash)))
