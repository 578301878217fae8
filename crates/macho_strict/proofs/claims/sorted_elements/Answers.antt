use Rattle.std.proofs.Common.{ℕ, List, subst}
use Rattle.macho_strict.specs.Elements.{elements_of}
use Rattle.macho_strict.specs.Passed.{ArePassedBy}
use Rattle.macho_strict.specs.Verdict.{element_spans}
use Rattle.macho_strict.proofs.Sharings.{drained_occupied}
use Rattle.macho_strict.proofs.claims.sorted_elements.Goals as goal

pub returns-clause-passed : goal.returns-clause-passed
returns-clause-passed c =
    let image = c.args.image.now in
    let spans = element_spans image in
    let listed = drained_occupied (elements_of image) c.of.result c.of.ensures.elements c.in_ok-list.list.spans c.in_ok-list.ensures.0 c.in_ok-list.ensures.1 c.in_ok-list.ensures.2 in
    subst (λ (bytes : List ℕ). ArePassedBy bytes spans c.pass_sorted.result.gaps c.pass_sorted.result.sorted) c.bytes.ensures.bytes (c.pass_sorted.ensures.passed spans listed)
