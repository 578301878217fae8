use Rattle.std.proofs.Common.{◌∙◌}
use Rattle.macho_text.proofs.Loops.{texts_within}
use Rattle.macho_text.proofs.Holding.{holds_begin_as, holds_item, holds_item_fails, holds_items}
use Rattle.macho_lines.specs.Line.{section_line}
use Rattle.macho_lines.proofs.image.write_sections.Goals as goal

pub loop-section-init : goal.loop-section-init
loop-section-init g c = holds_begin_as (texts_within (λ s. section_line s.image s.place) _ _ _ (c.into_iter-section-iterator.ensures.into_iter_gives ∙ c.sections-section-items.ensures))

pub loop-section-preserved : goal.loop-section-preserved
loop-section-preserved g c = holds_item (λ s. section_line s.image s.place) c.in-Some.ensures.steps c.loop-section.invariant c.in_ok-write_section.ensures

pub returns-in_err-write_section : goal.returns-in_err-write_section
returns-in_err-write_section g c = holds_item_fails (λ s. section_line s.image s.place) c.from_residual.ensures.0 c.in-Some.ensures.steps c.loop-section.invariant c.in_err-write_section.ensures

pub returns : goal.returns
returns g c = holds_items (λ s. section_line s.image s.place) c.in-None.ensures.steps.0 c.loop-section.invariant
