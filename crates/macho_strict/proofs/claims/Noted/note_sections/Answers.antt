use Rattle.std.proofs.Common.{◌++◌, ◌∷◌, [], List, subst, sym}
use Rattle.std.proofs.lemmas.List.{append-nil}
use Rattle.macho_image.specs.Segment.{SectionView}
use Rattle.macho_strict.specs.Claims.{AreNoted}
use Rattle.macho_strict.specs.Elements.{contents}
use Rattle.macho_strict.specs.ElementWalk.{section_elements_left}
use Rattle.macho_strict.specs.declared.elements.Element.{Element}
use Rattle.macho_strict.proofs.ElementWalks.{sections_more}
use Rattle.macho_strict.proofs.Sharings.{all_yielded}
use Rattle.macho_strict.proofs.claims.Noted.note_sections.Goals as goal

pub loop-section-init : goal.loop-section-init
loop-section-init c = λ image elements are. subst (λ (es : List Element). AreNoted image es c.args.self.now) (sym (append-nil elements)) are

pub loop-section-preserved : goal.loop-section-preserved
loop-section-preserved c = λ image elements are.
    let seen = c.loop-section.yielded in
    let s = c.in-Some.section in
    let before = elements ++ section_elements_left seen in
    let one = subst (λ (e : Element). AreNoted image (before ++ e ∷ []) c.note.new.self) c.contents.ensures (c.note.ensures image before (c.loop-section.invariant image elements are)) in
    let with_contents = before ++ contents s.image s.place ∷ [] in
    let two = subst (λ (e : Element). AreNoted image (with_contents ++ e ∷ []) c.note-in-loop-section.new.self) c.relocations.ensures (c.note-in-loop-section.ensures image with_contents one) in
    subst (λ (es : List Element). AreNoted image es c.note-in-loop-section.new.self) (sections_more elements seen s) two

pub returns : goal.returns
returns c = λ image elements are.
    let all = all_yielded _ c.into_iter-section-iterator.result c.into_iter-section-iterator.ensures.into_iter_gives c.loop-section.yielded _ _ c.next.result c.loop-section.yielded_by c.next.ensures.steps c.in-None.is in
    subst (λ (sections : List SectionView). AreNoted image (elements ++ section_elements_left sections) c.loop-section.self) all (c.loop-section.invariant image elements are)
