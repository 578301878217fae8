use Rattle.std.proofs.Common.{subst}
use Rattle.macho_spans.specs.SpanOrder.{IsSharingOf}
use Rattle.macho_fields.specs.Universal.{entry_count}
use Rattle.macho_fat.specs.TableWalk.{placed_spans}
use Rattle.macho_fat.proofs.SharedSpans.{none_shown, first_shown}
use Rattle.macho_fat.proofs.sharing.first_sharing.Goals as goal

pub returns-in-None-clause-first : goal.returns-in-None-clause-first
returns-in-None-clause-first g c = λ span of is.
    let file = c.args.table.now in
    none_shown file span (subst (IsSharingOf (placed_spans file span (entry_count file))) c.in-None.is is)

pub returns-in-First-clause-first : goal.returns-in-First-clause-first
returns-in-First-clause-first g c = λ span of is.
    let file = c.args.table.now in
    first_shown file span c.in-First.place (subst (IsSharingOf (placed_spans file span (entry_count file))) c.in-First.is is)
