use Rattle.std.proofs.Common.{◌++◌, ◌∷◌, [], List, subst, sym}
use Rattle.std.proofs.lemmas.List.{append-nil, append_assoc}
use Rattle.macho_strict.specs.Claims.{AreNoted}
use Rattle.macho_strict.specs.declared.elements.Element.{Element}
use Rattle.macho_strict.proofs.Sharings.{all_yielded}
use Rattle.macho_strict.proofs.claims.Noted.note_tables.Goals as goal

pub loop-element-init : goal.loop-element-init
loop-element-init c = λ image elements are. subst (λ (es : List Element). AreNoted image es c.args.self.now) (sym (append-nil elements)) are

pub loop-element-preserved : goal.loop-element-preserved
loop-element-preserved c = λ image elements are.
    let seen = c.loop-element.yielded in
    subst (λ (es : List Element). AreNoted image es c.note.new.self) (append_assoc elements seen (c.in-Some.element ∷ []))
    (c.note.ensures image (elements ++ seen) (c.loop-element.invariant image elements are))

pub returns : goal.returns
returns c = λ image elements are.
    let all = all_yielded _ c.into_iter-element-iterator.result c.into_iter-element-iterator.ensures.into_iter_gives c.loop-element.yielded _ _ c.next.result c.loop-element.yielded_by c.next.ensures.steps c.in-None.is in
    subst (λ (es : List Element). AreNoted image (elements ++ es) c.loop-element.self) all (c.loop-element.invariant image elements are)
