use Rattle.std.proofs.Common.{◌∙◌, rules, tests}
use Rattle.std.proofs.lemmas.Iterator.Search.{find_from_yields_List}
use Rattle.macho_tables.proofs.Found.{segments_yield}
use Rattle.macho_tables.proofs.SafeBases.{shows}
use Rattle.macho_readers.proofs.NamedSegments.{base_place}
use Rattle.macho_readers.proofs.segments.base_segment.Goals as goal

pub returns : goal.returns
returns c =
    let image = c.args.image.now in
    let found = find_from_yields_List shows _ _ c.find.result c.find.ensures.ran (segments_yield image c.segments.ensures.segments) (λ s b q k. search (rules, tests)) in
    c.place_of_segment.ensures ∙ base_place image c.segments.result c.segments.ensures.segments c.find.result found
