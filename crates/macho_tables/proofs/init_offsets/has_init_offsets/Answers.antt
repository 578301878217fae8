use Rattle.std.proofs.Common.{◌∙◌, ℕ, List, refl}
use Rattle.std.proofs.lemmas.Bool.{both_ways, false≢true}
use Rattle.macho_fields.proofs.Lists.{any_of}
use Rattle.macho_tables.specs.InitOffsets.{HasOffsets}
use Rattle.macho_tables.proofs.SectionWalks.{searched_none, searched_has, searched_less, searched_all, of_sections, OfSection}
use Rattle.macho_tables.proofs.init_offsets.has_init_offsets.Goals as goal

abbrev At : List ℕ → ℕ → ℕ → ℕ → Type 0
At image segment section place = HasOffsets image segment section

pub loop-section-init : goal.loop-section-init
loop-section-init c = (tt, tt, searched_none At _)

pub loop-section-preserved : goal.loop-section-preserved
loop-section-preserved c = (
  tt,
  tt,
  searched_less At _ _ _ c.in-Some.section c.in-Some.ensures.steps _ c.loop-section.invariant.2 (λ place here. both_ways c.has_offsets.result c.if-has_offsets.false (c.has_offsets.ensures.1 here)),
)

pub returns-then-has_offsets : goal.returns-then-has_offsets
returns-then-has_offsets c =
    let are = c.into_iter-section-iterator.ensures.into_iter_gives ∙ c.sections-section-items.ensures.sections in
    let s = c.in-Some.section in
    let has = searched_has At _ _ _ s c.in-Some.ensures.steps _ c.loop-section.invariant.2 in
    (λ _. (of_sections At c.args.image.now _ are 0).0 (any_of (OfSection At 0) _ s has (c.has_offsets.ensures.0 c.if-has_offsets.true)), λ _. refl)

pub returns : goal.returns
returns c =
    let are = c.into_iter-section-iterator.ensures.into_iter_gives ∙ c.sections-section-items.ensures.sections in
    let none = searched_all At c.args.image.now _ are _ c.in-None.ensures.steps.0 _ c.loop-section.invariant.2 in
    (λ wrong. absurd (false≢true wrong), λ any. absurd (none 0 any))
