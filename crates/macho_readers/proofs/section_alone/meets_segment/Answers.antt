use Rattle.std.proofs.Common.{arith}
use Rattle.std.proofs.lemmas.Bool.{false≢true}
use Rattle.macho_spans.specs.Overlap.{sorted_spans}
use Rattle.macho_readers.proofs.SectionAlone.{met_some, met_none}
use Rattle.macho_readers.proofs.section_alone.meets_segment.Goals as goal

pub returns-in-Some : goal.returns-in-Some
returns-in-Some c image keeps moved rising =
    let (to, from) = met_some image keeps (sorted_spans c.args.segments.now) moved rising c.args.span c.requires c.saturating_add-last.result
    (omega (arith, c.saturating_add-last.ensures)) (λ p near low. omega (arith, near, low, c.saturating_add-last.ensures)) c.in-Some.segment c.in-Some.ensures in
    (λ is. to (c.shares.ensures.0 is), λ met. c.shares.ensures.1 (from met))

pub returns-in-None : goal.returns-in-None
returns-in-None c image keeps moved rising = (
  λ wrong. absurd (false≢true wrong),
  λ met. absurd (met_none image keeps (sorted_spans c.args.segments.now) moved rising c.args.span c.requires c.saturating_add-last.result
      (omega (arith, c.saturating_add-last.ensures)) (λ p near low. omega (arith, near, low, c.saturating_add-last.ensures)) c.in-None.ensures met),
)
