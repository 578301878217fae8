use Rattle.std.proofs.Common.{sym, subst, rules, tests, List}
use Rattle.std.specs.Prelude.{IsPermutation}
use Rattle.macho_fields.specs.FirstPlace.{IsLeastPlace}
use Rattle.macho_spans.specs.Overlap.{sorted_spans}
use Rattle.macho_spans.specs.declared.span.Span.{Span}
use Rattle.macho_readers.specs.SectionAlone.{IsOverMapped, TellsOverMapped}
use Rattle.macho_readers.specs.Sections.{AtSection}
use Rattle.macho_readers.proofs.NamedSections.{first_section}
use Rattle.macho_readers.proofs.SectionAlone.{told}
use Rattle.macho_readers.proofs.section_alone.first_over.Goals as goal

pub returns-clause-least : goal.returns-clause-least
returns-clause-least c =
    let image = c.args.image.now in
    let spans = sorted_spans c.sorted-segments.result in
    let moved = subst (λ (these : List Span). IsPermutation these spans) c.in_ok-mapped_memory.ensures c.sorted-segments.ensures.permutation in
    subst (IsLeastPlace (AtSection image (IsOverMapped image image))) (sym c.place_of_section.ensures)
    (first_section image c.sections.ensures.opened c.sections.ensures.sections _ (IsOverMapped image) c.find.result c.find.ensures.ran (λ s b q k.
    let tells : TellsOverMapped b spans s.now.image (s.now.segment, s.now.place) = search (rules, tests) in
    (search (rules, tests), told b spans s.now.image (s.now.segment, s.now.place) image c.requires moved c.sorted-segments.ensures.rising tells)))
