use Rattle.std.proofs.lemmas.Bool.{false≢true}
use Rattle.macho_rules.proofs.Searches.{any_of}
use Rattle.macho_spans.specs.Span.{IsInside}
use Rattle.macho_strict.proofs.Encryptions.{one_has, none_has_it}
use Rattle.macho_strict.proofs.disjoint.Disjoint.has_range.Goals as goal

pub returns-in-Some : goal.returns-in-Some
returns-in-Some c =
    let parts = c.args.self.now in
    let range = c.args.range in
    let part = c.in-Some.span in (
      λ inside. any_of (IsInside range) parts part c.in-Some.ensures.0 (c.inside.ensures.0 inside),
      λ any. c.inside.ensures.1 (one_has parts range part c.requires c.in-Some.ensures any),
    )

pub returns-in-None : goal.returns-in-None
returns-in-None c = (λ wrong. absurd (false≢true wrong), λ any. absurd (none_has_it c.args.self.now c.args.range c.requires c.in-None.ensures any))
