use Rattle.std.proofs.Common.{◌∙◌, ◌∷◌, Any, List, zero, suc, sym, subst, arith}
use Rattle.macho_fields.proofs.Lists.{any_nil}
use Rattle.macho_fields.specs.Image.{commands_of}
use Rattle.macho_image.specs.Segment.{section_at, sections_of}
use Rattle.macho_explain.specs.SectionItems.{HasItem}
use Rattle.macho_explain.proofs.SectionItems.{any_mapped}
use Rattle.macho_explain.proofs.section_item.section_item.Goals as goal

later : {X : Type 0} (P : X → Type 0) (x : X) (xs : List X) → ¬ P x → Any P (x ∷ xs) → Any P xs
later P x xs not (zero, y, less, at, has) = absurd (not (subst P (sym at) has))
later P x xs not (suc k, y, less, at, has) = (k, y, omega (arith, less), at, has)

pub loop-section-init : goal.loop-section-init
loop-section-init c = (tt, tt, λ any. any)

pub loop-section-preserved : goal.loop-section-preserved
loop-section-preserved c =
    let Here = HasItem c.args.sought c.args.sliced.now.place in
    (tt, tt, λ any. later Here c.in-Some.section _ c.in_default.ensures (subst (Any Here) c.in-Some.ensures.steps (c.loop-section.invariant.2 any)))

pub returns : goal.returns
returns c =
    let image = c.args.image.now in
    let Here = HasItem c.args.sought c.args.sliced.now.place in
    let are = c.into_iter-section-iterator.ensures.into_iter_gives ∙ c.sections-section-items.ensures.sections in
    λ any.
    let left = c.loop-section.invariant.2 (subst (Any Here) (sym are) (any_mapped Here (section_at image) (sections_of image (commands_of image)) any)) in
    any_nil Here (subst (Any Here) c.in-None.ensures.steps.0 left)
