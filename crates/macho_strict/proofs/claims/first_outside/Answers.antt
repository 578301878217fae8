use Rattle.std.proofs.Common.{◌≡◌, ◌∙◌, List, ℕ, sym, subst}
use Rattle.std.proofs.lemmas.Bool.{both_ways}
use Rattle.macho_fields.proofs.FirstPlaces.{AreBreaks}
use Rattle.macho_rules.proofs.Searches.{Rising, search_all, search_next, search_found, search_ended}
use Rattle.macho_strict.specs.Rules.{EndsPast, SomeElementEndsPast}
use Rattle.macho_strict.specs.Elements.{elements_of}
use Rattle.macho_strict.specs.declared.elements.Element.{Element}
use Rattle.macho_strict.proofs.Claimed.{some_element_ends_past}
use Rattle.macho_strict.proofs.ElementPlaces.{place_of, elements_rise}
use Rattle.macho_strict.proofs.claims.first_outside.Goals as goal

breaking : (image : List ℕ) (all : List Element) → all ≡ elements_of image → AreBreaks (SomeElementEndsPast image) place_of (EndsPast image) all
breaking image all are = subst (AreBreaks (SomeElementEndsPast image) place_of (EndsPast image)) (sym are) (some_element_ends_past image)

pub loop-element-init : goal.loop-element-init
loop-element-init c =
    let image = c.args.image.now in
    let are = c.into_iter-element-iterator.ensures.into_iter_gives ∙ c.of-element-items.ensures.elements in
    search_all place_of (EndsPast image) c.into_iter-element-iterator.result (subst (λ (all : List Element). Rising place_of all) (sym are) (elements_rise image c.of-element-items.ensures.opened))

pub returns-then-ends_past : goal.returns-then-ends_past
returns-then-ends_past c =
    let image = c.args.image.now in
    let all = c.into_iter-element-iterator.result in
    let are = c.into_iter-element-iterator.ensures.into_iter_gives ∙ c.of-element-items.ensures.elements in
    let past = subst (λ (bytes : List ℕ). EndsPast bytes c.in-Some.element) c.bytes-bytes.ensures.bytes (c.ends_past.ensures.0 c.if-ends_past.true) in
    search_found (SomeElementEndsPast image) place_of (EndsPast image) all _ _ c.in-Some.element c.in-Some.ensures.steps (breaking image all are) c.loop-element.invariant past

pub loop-element-preserved : goal.loop-element-preserved
loop-element-preserved c =
    search_next place_of (EndsPast c.args.image.now) _ _ _ c.in-Some.element c.in-Some.ensures.steps c.loop-element.invariant
    (λ past. both_ways c.ends_past.result c.if-ends_past.false (c.ends_past.ensures.1 (subst (λ (bytes : List ℕ). EndsPast bytes c.in-Some.element) (sym c.bytes-bytes.ensures.bytes) past)))

pub returns : goal.returns
returns c =
    let image = c.args.image.now in
    let all = c.into_iter-element-iterator.result in
    let are = c.into_iter-element-iterator.ensures.into_iter_gives ∙ c.of-element-items.ensures.elements in
    search_ended (SomeElementEndsPast image) place_of (EndsPast image) all _ c.in-None.ensures.steps.0 (breaking image all are) c.loop-element.invariant
