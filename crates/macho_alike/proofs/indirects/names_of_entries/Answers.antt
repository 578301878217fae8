use Rattle.std.proofs.Common.{◌∙◌, List, Contains, sym, subst}
use Rattle.macho_fields.proofs.Lists.{contains_first, contains_later}
use Rattle.macho_image.specs.Segment.{SectionView}
use Rattle.macho_alike.proofs.Gathered.{OfSome, walk_start, walk_step, walk_end, some_next, some_none, gathered_all}
use Rattle.macho_alike.proofs.SaidNames.{SaidIn, of_image, in_sections}
use Rattle.macho_alike.proofs.indirects.names_of_entries.Goals as goal

pub loop-section-init : goal.loop-section-init
loop-section-init c =
    let are = c.into_iter-section-iterator.ensures.into_iter_gives ∙ c.sections-section-items.ensures.sections in
    (tt, tt, walk_start (OfSome (SaidIn c.args.image.now c.args.bounds.now) c.into_iter-section-iterator.result) c.new-said.result.items, of_image c.args.image.now _ are)

pub add_section-requires-clause-image : goal.add_section-requires-clause-image
add_section-requires-clause-image c =
    c.loop-section.invariant.3 c.in-Some.section (subst (λ (these : List SectionView). Contains these c.in-Some.section) (sym c.in-Some.ensures.steps) (contains_first c.in-Some.section _))

pub loop-section-preserved : goal.loop-section-preserved
loop-section-preserved c =
    let Said = SaidIn c.args.image.now c.args.bounds.now in (
      tt,
      tt,
      walk_step (OfSome Said c.into_iter-section-iterator.result) (OfSome Said c.loop-section.section-iterator) (Said c.in-Some.section) (OfSome Said c.next.new.self)
          c.new-said.result.items c.loop-section.said.items c.add_section.new.said.items c.loop-section.invariant.2
          (some_next Said c.loop-section.section-iterator c.next.new.self c.in-Some.section c.in-Some.ensures.steps) c.in_ok-add_section.ensures,
      λ s has. c.loop-section.invariant.3 s (subst (λ (these : List SectionView). Contains these s) (sym c.in-Some.ensures.steps) (contains_later c.in-Some.section s c.next.new.self has)),
    )

pub returns : goal.returns
returns c =
    let image = c.args.image.now in
    let Said = SaidIn image c.args.bounds.now in
    let are = c.into_iter-section-iterator.ensures.into_iter_gives ∙ c.sections-section-items.ensures.sections in
    let listed = walk_end (OfSome Said c.into_iter-section-iterator.result) (OfSome Said c.loop-section.section-iterator) c.new-said.result.items c.loop-section.said.items c.loop-section.invariant.2
    (some_none Said c.loop-section.section-iterator c.in-None.ensures.steps.0) in
    λ one.
    let has = gathered_all (OfSome Said c.into_iter-section-iterator.result) c.new-said.result.items c.loop-section.said.items c.new-said.ensures.items listed one in
    let where_said = in_sections image c.into_iter-section-iterator.result are c.args.bounds.now one in
    (λ contained. where_said.0 (has.0 contained), λ said. has.1 (where_said.1 said))
