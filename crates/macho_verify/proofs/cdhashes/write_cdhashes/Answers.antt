use Rattle.std.proofs.Common.{map, ap, ◌∙◌}
use Rattle.macho_text.specs.Stream.{joined}
use Rattle.macho_text.proofs.Holding.{holds_begin_as, holds_item, holds_item_fails, holds_items}
use Rattle.macho_verify.specs.Cdhashes.{digest_line}
use Rattle.macho_verify.proofs.cdhashes.write_cdhashes.Goals as goal

pub loop-digest-init : goal.loop-digest-init
loop-digest-init g c = holds_begin_as (ap (λ ds. joined (map digest_line ds)) (c.into_iter-digest-iterator.ensures.into_iter_gives ∙ c.of-digest-items.ensures))

pub loop-digest-preserved : goal.loop-digest-preserved
loop-digest-preserved g c =
    holds_item digest_line c.in-Some.ensures.steps c.loop-digest.invariant (rw (c.type_word.ensures, c.cdhash.ensures) at c.in_ok-write_cdhash.ensures)

pub returns-in_err-write_cdhash : goal.returns-in_err-write_cdhash
returns-in_err-write_cdhash g c =
    holds_item_fails digest_line c.from_residual.ensures.0 c.in-Some.ensures.steps c.loop-digest.invariant (rw (c.type_word.ensures, c.cdhash.ensures) at c.in_err-write_cdhash.ensures)

pub returns : goal.returns
returns g c = holds_items digest_line c.in-None.ensures.steps.0 c.loop-digest.invariant
