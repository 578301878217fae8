use Rattle.std.proofs.Common.{◌++◌, [], ◌∷◌, refl, sym, ◌∙◌, subst, append_assoc}
use Rattle.std.proofs.lemmas.List.{append-nil}
use Rattle.macho_image.specs.Segment.{SectionView}
use Rattle.macho_rules.specs.Survey.{AreFirstSections, BreaksSection, section_notes}
use Rattle.macho_rules.proofs.Surveys.{walked, walked_on, walked_all, sections_end_by, noted_more}
use Rattle.macho_rules.proofs.survey.SectionBreaks.note_all.Goals as goal

pub loop-section-init : goal.loop-section-init
loop-section-init c = ([], refl, λ passed after first. subst (λ xs. AreFirstSections xs c.args.self.now) (sym (append-nil passed)) first)

pub loop-section-preserved : goal.loop-section-preserved
loop-section-preserved c =
    let are = c.into_iter-section-iterator.ensures.into_iter_gives ∙ c.sections-section-items.ensures in
    let (seen, reached, first) = c.loop-section.invariant in
    let x = c.in-Some.section in
    let here = walked _ seen _ x _ reached c.in-Some.ensures.steps in (
      seen ++ x ∷ [],
      walked_on _ seen _ x _ reached c.in-Some.ensures.steps,
      λ passed after before.
          subst (λ xs. AreFirstSections xs c.note.new.self) (append_assoc passed seen (x ∷ []))
          (noted_more (λ (t : SectionView). t.place) BreaksSection section_notes (passed ++ seen) x c.loop-section.self c.note.new.self (sections_end_by c.args.segment.now _ are seen x _ here passed after) c.note.ensures (first passed after before)),
    )

pub returns : goal.returns
returns c passed after before =
    let are = c.into_iter-section-iterator.ensures.into_iter_gives ∙ c.sections-section-items.ensures in
    let (seen, reached, first) = c.loop-section.invariant in
    subst (λ xs. AreFirstSections (passed ++ xs) c.loop-section.self) (sym (walked_all _ seen _ reached c.in-None.ensures.steps.0) ∙ are) (first passed after before)
