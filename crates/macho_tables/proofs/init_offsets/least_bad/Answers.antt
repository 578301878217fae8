use Rattle.std.proofs.Common.{◌≡◌, ◌∙◌, ◌+◌, ◌≤◌, ◌<◌, ℕ, List, length, Contains, None, sym, ap, subst}
use Rattle.std.proofs.lemmas.Bool.{both_ways}
use Rattle.macho_fields.specs.FirstPlace.{IsLeastPlace}
use Rattle.macho_fields.specs.Image.{commands_of}
use Rattle.macho_fields.specs.Layers.{NothingBreaks}
use Rattle.macho_fields.specs.Rules.{BreaksImage as Breaks}
use Rattle.macho_fields.specs.Segment.{section_offset, section_size}
use Rattle.macho_image.specs.Segment.{SectionView, section_at, sections_of}
use Rattle.macho_rules.proofs.Searches.{mapped_has}
use Rattle.macho_rules.proofs.SectionItems.{AreSections}
use Rattle.macho_tables.specs.InitOffsets.{HasOffsets, BadOffset}
use Rattle.macho_tables.proofs.InitOffsets.{offsets_inside}
use Rattle.macho_tables.proofs.Items.{least_where}
use Rattle.macho_tables.proofs.SectionWalks.{AreSearched, searched_none, searched_has, searched_more, searched_less, searched_all}
use Rattle.macho_tables.proofs.init_offsets.least_bad.Goals as goal

abbrev At : List ℕ → ℕ → ℕ → ℕ → Type 0
At image segment section place = HasOffsets image segment section × BadOffset image section place

its_image : (image : List ℕ) (all : List SectionView) → AreSections image all → (s : SectionView) → Contains all s → s.image ≡ image
its_image image all are s has =
    let (pair, among, at) = mapped_has (section_at image) (sections_of image (commands_of image)) s (subst (λ these. Contains these s) are has) in
    sym (ap (λ (t : SectionView). t.image) at)

inside : (image : List ℕ) → NothingBreaks (Breaks image None) → (all : List SectionView) → AreSections image all → (s : SectionView) → Contains all s → HasOffsets s.image s.segment s.place
    → 0 < section_size image s.place → section_offset image s.place + section_size image s.place ≤ length image
inside image keeps all are s has offsets =
    let (pair, among, at) = mapped_has (section_at image) (sections_of image (commands_of image)) s (subst (λ these. Contains these s) are has) in
    subst (λ (t : SectionView). HasOffsets t.image t.segment t.place → 0 < section_size image t.place → section_offset image t.place + section_size image t.place ≤ length image) at (offsets_inside image keeps pair among) offsets

pub loop-section-init : goal.loop-section-init
loop-section-init c = (tt, tt, c.requires.runs, searched_none At _)

pub first_bad-requires-clause-of : goal.first_bad-requires-clause-of
first_bad-requires-clause-of c =
    let are = c.into_iter-section-iterator.ensures.into_iter_gives ∙ c.sections-section-items.ensures.sections in
    its_image c.args.image.now _ are c.in-Some.section (searched_has At _ _ _ c.in-Some.section c.in-Some.ensures.steps _ c.loop-section.invariant.3)

pub first_bad-requires-clause-inside : goal.first_bad-requires-clause-inside
first_bad-requires-clause-inside c =
    let are = c.into_iter-section-iterator.ensures.into_iter_gives ∙ c.sections-section-items.ensures.sections in
    inside c.args.image.now c.requires.unbroken _ are c.in-Some.section (searched_has At _ _ _ c.in-Some.section c.in-Some.ensures.steps _ c.loop-section.invariant.3) (c.has_offsets.ensures.0 c.if-has_offsets.true)

pub loop-section-preserved-then-has_offsets : goal.loop-section-preserved-then-has_offsets
loop-section-preserved-then-has_offsets c =
    let image = c.args.image.now in
    let s = c.in-Some.section in
    let are = c.into_iter-section-iterator.ensures.into_iter_gives ∙ c.sections-section-items.ensures.sections in
    let same = its_image image _ are s (searched_has At _ _ _ s c.in-Some.ensures.steps _ c.loop-section.invariant.3) in
    let here = subst (λ (bytes : List ℕ). IsLeastPlace (BadOffset bytes s.place) c.first_bad.result) (sym same) c.first_bad.ensures.least in
    let more = searched_more At _ _ _ s c.in-Some.ensures.steps _ c.loop-section.invariant.3 c.first_bad.result
    (least_where (HasOffsets s.image s.segment s.place) (BadOffset s.image s.place) c.first_bad.result (c.has_offsets.ensures.0 c.if-has_offsets.true) here) in
    (tt, tt, c.first_bad.ensures.same, subst (AreSearched At c.into_iter-section-iterator.result c.next.new.self) (sym c.lesser-least.ensures) more)

pub loop-section-preserved : goal.loop-section-preserved
loop-section-preserved c = (
  tt,
  tt,
  c.loop-section.invariant.2,
  searched_less At _ _ _ c.in-Some.section c.in-Some.ensures.steps _ c.loop-section.invariant.3 (λ place here. both_ways c.has_offsets.result c.if-has_offsets.false (c.has_offsets.ensures.1 here.0)),
)

pub returns : goal.returns
returns c =
    let are = c.into_iter-section-iterator.ensures.into_iter_gives ∙ c.sections-section-items.ensures.sections in
    searched_all At c.args.image.now _ are _ c.in-None.ensures.steps.0 c.loop-section.least c.loop-section.invariant.3
