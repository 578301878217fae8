use Rattle.std.proofs.Common.{◌≡◌, ◌+◌, ℕ, None, arith}
use Rattle.std.proofs.lemmas.Option.{slice_get_within}
use Rattle.macho_strict.specs.Elements.{elements_of}
use Rattle.macho_strict.specs.declared.elements.Element.{Element}
use Rattle.macho_tables.proofs.Found.{match_none}
use Rattle.macho_explain.specs.Elements.{IsConflicting}
use Rattle.macho_explain.proofs.ElementWalks.{is_within, none_more, passed_all, passed_more}
use Rattle.macho_explain.proofs.element.first_conflict.Goals as goal
use Rattle.macho_explain.proofs.element.first_conflict.Goals.{else-element-place-via-else-element-place, else-element-place-via-then-element-place+in-None-1}

pub loop-element-preserved : goal.loop-element-preserved
loop-element-preserved c =
    let image = c.args.image.now in
    let place = c.args.place in
    let index = c.loop-element.index in
    let element = c.in-Some.element in
    let Here : ℕ → Element → Type 0 = λ j e. (e.described ≡ place) × IsConflicting image j e in (
      tt,
      tt,
      λ few.
          let (passed, none) = c.loop-element.invariant.2 few in
          let within = is_within (elements_of image) _ index passed element _ c.in-Some.ensures.steps in
          let next : c.saturating_add-index.result ≡ index + 1 = omega (arith, c.saturating_add-index.ensures, within, few) in
          let not_here : ¬ Here index element = λ has. elim c.else-element-place.branch [
            | else-element-place-via-else-element-place w ↦ w.if-element-place.false has.0
            | else-element-place-via-then-element-place+in-None-1 w ↦
                let nothing : w.conflict_of.result ≡ None = cc in
                match_none _ _ w.conflict_of.result w.conflict_of.ensures nothing few has.1
          ] in (
            passed_more (elements_of image) _ index passed element _ c.in-Some.ensures.steps _ next,
            none_more (elements_of image) _ index passed element _ c.in-Some.ensures.steps Here none not_here _ next,
          ),
    )

pub returns : goal.returns
returns c =
    let image = c.args.image.now in
    let index = c.loop-element.index in
    λ few has.
    let (k, element, at, described, conflict) = has in
    let (passed, none) = c.loop-element.invariant.2 few in
    let all = passed_all (elements_of image) _ index passed c.in-None.ensures.steps.0 in
    let within = slice_get_within (elements_of image) k element at in
    none k element (omega (arith, within, all)) at (described, conflict)
