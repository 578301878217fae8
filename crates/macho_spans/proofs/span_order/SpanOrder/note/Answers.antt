use Rattle.std.proofs.Common.{◌≡◌, List, ℕ, [], ◌∷◌, ◌++◌, length, sym, ◌∙◌, subst, arith}
use Rattle.std.proofs.lemmas.List.{map-append, length-map}
use Rattle.macho_spans.specs.SpanOrder.{IsTrend, spans_in, tags_in}
use Rattle.macho_spans.specs.declared.span.Span.{Span}
use Rattle.macho_spans.specs.declared.span_order.Trend.{Trend}
use Rattle.macho_spans.proofs.SpanOrders.{same_trend}
use Rattle.macho_spans.proofs.span_order.SpanOrder.note.Goals as goal

as_many : (pairs : List (Span × ℕ)) → length (tags_in pairs) ≡ length (spans_in pairs)
as_many pairs = length-map pairs (λ pair. pair.1) ∙ sym (length-map pairs (λ pair. pair.0))

-- the trend of the pairs, by the trend of their spans
of_pairs : (pairs : List (Span × ℕ)) (span last : Span) (tag : ℕ) (t : Trend)
    → IsTrend (spans_in pairs ++ span ∷ []) (tags_in pairs ++ tag ∷ []) last t
    → IsTrend (spans_in (pairs ++ (span, tag) ∷ [])) (tags_in (pairs ++ (span, tag) ∷ [])) last t
of_pairs pairs span last tag t is =
    subst (λ spans. IsTrend spans (tags_in (pairs ++ (span, tag) ∷ [])) last t) (sym (map-append (λ pair. pair.0) pairs ((span, tag) ∷ [])))
    (subst (λ tags. IsTrend (spans_in pairs ++ span ∷ []) tags last t) (sym (map-append (λ pair. pair.1) pairs ((span, tag) ∷ []))) is)

pub returns-then-span-gt0 : goal.returns-then-span-gt0
returns-then-span-gt0 c = λ pairs is.
    of_pairs pairs c.args.span c.args.span c.args.tag c.trend_with-self.result
    (c.trend_with-self.ensures (spans_in pairs) (tags_in pairs) (as_many pairs) is)

pub returns-else-span-gt0 : goal.returns-else-span-gt0
returns-else-span-gt0 c = λ pairs is.
    of_pairs pairs c.args.span c.args.self.now.last c.args.tag c.args.self.now.trend
    (same_trend (spans_in pairs) c.args.span (λ some. omega (arith, some)) (tags_in pairs) c.args.tag c.args.self.now.last c.args.self.now.trend is)
