use Rattle.std.proofs.Common.{◌≡◌, ◌∙◌, ◌++◌, List, sym, ap, subst, lit<}
use Rattle.std.specs.Prelude.{IsPermutation}
use Rattle.macho_fields.specs.declared.rule.Rule.TheVariants as rule
use Rattle.macho_spans.specs.Overlap.{sorted_spans}
use Rattle.macho_spans.specs.declared.span.Span.{Span}
use Rattle.macho_strict.specs.Passed.{occupied, CoverSame}
use Rattle.macho_strict.specs.Rules.{all_segments}
use Rattle.macho_strict.specs.Unclaimed.{code_parts, is_code}
use Rattle.macho_strict.proofs.Disjoints.{disjoint_sorted, none_share_filtered}
use Rattle.macho_strict.proofs.Occupied.{cover_listed}
use Rattle.macho_strict.proofs.Surveyed.{parts_apart}
use Rattle.macho_strict.proofs.Unclaims.{part_of}
use Rattle.macho_strict.proofs.unclaimed.sorted_code.Goals as goal

pub new-requires : goal.new-requires
new-requires c =
    let image = c.args.image.now in
    let listed : c.push_code.new.list.spans ≡ occupied (code_parts image) = c.in_ok-push_code.ensures ∙ ap (λ (spans : List Span). spans ++ occupied (code_parts image)) c.in_ok-list.ensures.none in
    let moved = subst (λ (spans : List Span). IsPermutation spans (sorted_spans c.sorted.result)) listed c.sorted.ensures.permutation in
    let apart = parts_apart image c.requires.opened (λ p broken. c.requires.kept rule.SegmentFileOverlap p (lit< tt) broken) in
    disjoint_sorted (code_parts image) (sorted_spans c.sorted.result) moved c.sorted.ensures.rising (none_share_filtered (part_of image) (is_code image) (all_segments image) apart)

pub returns-clause-cover : goal.returns-clause-cover
returns-clause-cover c =
    let image = c.args.image.now in
    let listed : c.push_code.new.list.spans ≡ occupied (code_parts image) = c.in_ok-push_code.ensures ∙ ap (λ (spans : List Span). spans ++ occupied (code_parts image)) c.in_ok-list.ensures.none in
    subst (λ (spans : List Span). CoverSame (code_parts image) spans) (sym c.new.ensures)
    (cover_listed (code_parts image) c.push_code.new.list.spans (sorted_spans c.sorted.result) listed c.sorted.ensures.permutation)

pub returns-clause-parts : goal.returns-clause-parts
returns-clause-parts c =
    let image = c.args.image.now in
    let listed : c.push_code.new.list.spans ≡ occupied (code_parts image) = c.in_ok-push_code.ensures ∙ ap (λ (spans : List Span). spans ++ occupied (code_parts image)) c.in_ok-list.ensures.none in
    subst (λ (spans : List Span). IsPermutation (occupied (code_parts image)) spans) (sym c.new.ensures)
    (subst (λ (spans : List Span). IsPermutation spans (sorted_spans c.sorted.result)) listed c.sorted.ensures.permutation)
