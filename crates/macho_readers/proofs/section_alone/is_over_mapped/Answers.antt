use Rattle.std.proofs.Common.{◌↔◌, IsTrue, subst}
use Rattle.macho_rules.proofs.Mapped.{span_is}
use Rattle.macho_spans.specs.declared.span.Span.{Span}
use Rattle.macho_readers.specs.SectionAlone.{MeetsSegment, TellsOverMapped}
use Rattle.macho_readers.proofs.section_alone.is_over_mapped.Goals as goal

pub returns-then-is_unmapped : goal.returns-then-is_unmapped
unfolding TellsOverMapped
returns-then-is_unmapped c image keeps moved rising =
    let (unmapped, some, looked) = c.is_unmapped.ensures.0 c.if-is_unmapped.true in
    let met = subst (λ (span : Span). IsTrue c.meets_segment.result ↔ MeetsSegment image span) (span_is c.memory.result _ _ c.memory.ensures.start c.memory.ensures.len) (c.meets_segment.ensures image keeps moved rising) in
    (λ is. (unmapped, some, looked, met.0 is), λ (_, _, _, meets). met.1 meets)
