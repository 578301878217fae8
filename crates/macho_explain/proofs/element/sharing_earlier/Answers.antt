use Rattle.std.proofs.Common.{◌≡◌, ◌+◌, arith}
use Rattle.std.proofs.lemmas.Option.{slice_get_within}
use Rattle.macho_spans.specs.Span.{Shares}
use Rattle.macho_strict.specs.Elements.{elements_of}
use Rattle.macho_strict.specs.declared.elements.Element.{Element}
use Rattle.macho_explain.proofs.ElementWalks.{is_within, none_more, passed_all, passed_more}
use Rattle.macho_explain.proofs.element.sharing_earlier.Goals as goal

pub loop-earlier-preserved : goal.loop-earlier-preserved
loop-earlier-preserved c =
    let image = c.args.image.now in
    let before = c.loop-earlier.before in
    let span = c.args.element.span in (
      tt,
      tt,
      λ few.
          let (passed, none) = c.loop-earlier.invariant.2 few in
          let within = is_within (elements_of image) _ before passed c.in-Some.earlier _ c.in-Some.ensures.steps in
          let next : c.saturating_add-before.result ≡ before + 1 = omega (arith, c.saturating_add-before.ensures, within, few) in (
            passed_more (elements_of image) _ before passed c.in-Some.earlier _ c.in-Some.ensures.steps _ next,
            none_more (elements_of image) _ before passed c.in-Some.earlier _ c.in-Some.ensures.steps (λ j (e : Element). Shares span e.span) none c.in_default.ensures.none _ next,
          ),
    )

pub returns : goal.returns
returns c =
    let image = c.args.image.now in
    let before = c.loop-earlier.before in
    λ few has.
    let (j, earlier, less, at, share) = has in
    let (passed, none) = c.loop-earlier.invariant.2 few in
    let all = passed_all (elements_of image) _ before passed c.in-None.ensures.steps.0 in
    let within = slice_get_within (elements_of image) j earlier at in
    none j earlier (omega (arith, within, all)) at share
