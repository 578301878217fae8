use Rattle.std.proofs.Common.{◌∙◌}
use Rattle.macho_text.proofs.Loops.{texts_placed}
use Rattle.macho_text.proofs.Holding.{holds_begin_as, holds_item, holds_item_fails, holds_items}
use Rattle.macho_lines.specs.Line.{build_line}
use Rattle.macho_lines.proofs.image.write_builds.Goals as goal

pub loop-build-init : goal.loop-build-init
loop-build-init g c = holds_begin_as (texts_placed (λ b. build_line b.platform b.minos b.sdk) _ _ (c.into_iter-build-iterator.ensures.into_iter_gives ∙ c.builds-build-items.ensures))

pub loop-build-preserved : goal.loop-build-preserved
loop-build-preserved g c = holds_item (λ b. build_line b.platform b.minos b.sdk) c.in-Some.ensures.steps c.loop-build.invariant c.in_ok-write_build.ensures

pub returns-in_err-write_build : goal.returns-in_err-write_build
returns-in_err-write_build g c = holds_item_fails (λ b. build_line b.platform b.minos b.sdk) c.from_residual.ensures.0 c.in-Some.ensures.steps c.loop-build.invariant c.in_err-write_build.ensures

pub returns : goal.returns
returns g c = holds_items (λ b. build_line b.platform b.minos b.sdk) c.in-None.ensures.steps.0 c.loop-build.invariant
