use Rattle.std.proofs.Common.{◌↔◌, IsTrue, subst}
use Rattle.macho_rules.proofs.Mapped.{span_is}
use Rattle.macho_spans.specs.Span.{Shares}
use Rattle.macho_spans.specs.declared.span.Span.{Span}
use Rattle.macho_readers.proofs.section_alone.supplies_part.Goals as goal

pub returns : goal.returns
returns c = subst (λ (memory : Span). IsTrue c.shares.result ↔ Shares c.args.span.now memory) (span_is c.memory.result _ _ c.memory.ensures.start c.memory.ensures.len) c.shares.ensures
