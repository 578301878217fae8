use Rattle.std.proofs.Common.{List, sym, subst}
use Rattle.std.specs.Prelude.{IsPermutation}
use Rattle.macho_spans.specs.Overlap.{sorted_spans}
use Rattle.macho_spans.specs.declared.overlap.Numbered.{Numbered}
use Rattle.macho_spans.specs.declared.span.Span.{Span}
use Rattle.macho_strict.specs.Disjoint.{AreDisjoint}
use Rattle.macho_strict.specs.Passed.{IsByStart}
use Rattle.macho_strict.specs.Verdict.{file_parts}
use Rattle.macho_strict.proofs.Disjoints.{disjoint_sorted}
use Rattle.macho_strict.proofs.segments.FilePartSurvey.parts.Goals as goal

pub new-requires : goal.new-requires
new-requires c =
    let spans = file_parts c.args.image.now in
    let (moved, rising) = subst (IsByStart spans) c.in-Some.is c.requires.survey.by_start in
    subst (λ (items : List Numbered). AreDisjoint (sorted_spans items)) (sym c.in-Some.sorted-is) (disjoint_sorted spans (sorted_spans c.in-Some.sorted) moved rising c.requires.apart)

pub new-requires-in-None : goal.new-requires-in-None
new-requires-in-None c =
    let spans = file_parts c.args.image.now in
    let moved = subst (λ (list : List Span). IsPermutation list (sorted_spans c.sorted.result)) c.in_ok-part_list-in-None.ensures c.sorted.ensures.permutation in
    disjoint_sorted spans (sorted_spans c.sorted.result) moved c.sorted.ensures.rising c.requires.apart
