use Rattle.macho_text.specs.Name.{escaped}
use Rattle.macho_text.proofs.Holding.{holds_begin, holds_item, holds_item_fails, holds_part, holds_part_fails}
use Rattle.macho_text.proofs.Texts.{escaped_front}
use Rattle.macho_text.proofs.line.Line.escaped.Goals as goal

pub loop-first-init : goal.loop-first-init
loop-first-init g c = holds_begin

pub returns-in_err-word : goal.returns-in_err-word
returns-in_err-word g c =
    holds_item_fails escaped c.from_residual.ensures.0 c.in-Some.ensures.cases.0 c.loop-first.invariant (rw c.escape.ensures at c.in_err-word.ensures.text)

pub loop-first-preserved-then-plain-eq0 : goal.loop-first-preserved-then-plain-eq0
loop-first-preserved-then-plain-eq0 g c =
    holds_item escaped c.in-Some.ensures.cases.0 c.loop-first.invariant (rw c.escape.ensures at c.in_ok-word.ensures.text)

pub returns-in_err-word-2 : goal.returns-in_err-word-2
returns-in_err-word-2 g c =
    holds_part_fails _ _ c.from_residual-in_err-word-2.ensures.0 (escaped_front _ _ c.count_plain-plain.ensures.bound c.count_plain-plain.ensures.plain)
    c.loop-first.invariant c.in_err-word-2.ensures.text

pub loop-first-preserved : goal.loop-first-preserved
loop-first-preserved g c =
    holds_part _ (escaped_front _ _ c.count_plain-plain.ensures.bound c.count_plain-plain.ensures.plain) c.loop-first.invariant c.in_ok-word-2.ensures.text
