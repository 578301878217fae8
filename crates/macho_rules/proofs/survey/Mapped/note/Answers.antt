use Rattle.std.proofs.Common.{[], ◌∷◌, ◌++◌, arith, subst}
use Rattle.macho_spans.specs.SpanOrder.{IsOrderOf}
use Rattle.macho_spans.specs.declared.span.Span.{Span}
use Rattle.macho_rules.specs.Mapped.{memory_at}
use Rattle.macho_rules.proofs.Mapped.{span_is}
use Rattle.macho_rules.proofs.Surveys.{unmapped_more, mapped_more}
use Rattle.macho_rules.proofs.survey.Mapped.note.Goals as goal

pub returns-then-vmsize-eq0 : goal.returns-then-vmsize-eq0
returns-then-vmsize-eq0 c passed are = unmapped_more passed c.args.segment.now _ (omega (arith, c.if-vmsize-eq0.true, c.vmsize.ensures)) are

pub returns : goal.returns
returns c passed are =
    let s = c.args.segment.now in
    let memory = span_is c.memory.result _ _ c.memory.ensures.start c.memory.ensures.len in
    mapped_more passed s c.args.self.now _ (omega (arith, c.if-vmsize-eq0.false, c.vmsize.ensures))
    (λ pairs order. subst (λ p. IsOrderOf (pairs ++ (memory_at s.image s.place, p) ∷ []) c.note.new.self) c.place.ensures
    (subst (λ (span : Span). IsOrderOf (pairs ++ (span, c.place.result) ∷ []) c.note.new.self) memory (c.note.ensures pairs order)))
    (omega (arith, c.saturating_add-self.ensures)) c.base_with-self.ensures are
