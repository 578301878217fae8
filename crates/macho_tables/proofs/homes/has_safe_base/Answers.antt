use Rattle.std.proofs.Common.{sym, ap, ◌∙◌, rules, tests}
use Rattle.std.specs.Option.{option_map}
use Rattle.std.proofs.lemmas.Bool.{false≢true}
use Rattle.std.proofs.lemmas.Iterator.Search.{find_from_yields_List}
use Rattle.macho_image.specs.Segment.{SegmentView}
use Rattle.macho_tables.proofs.Found.{segments_yield}
use Rattle.macho_tables.proofs.SafeBases.{shows, base_image, base_found, base_missing}
use Rattle.macho_tables.proofs.homes.has_safe_base.Goals as goal

pub is_safe_base-requires : goal.is_safe_base-requires
is_safe_base-requires c =
    let found = find_from_yields_List shows _ _ c.find-base.result c.find-base.ensures.ran (segments_yield c.args.image.now c.segments.ensures.segments) (λ s b q k. search (rules, tests)) in
    base_image c.args.image.now _ c.segments.ensures.segments c.in-Some.segment (sym (ap (option_map (λ (s : SegmentView). s)) c.in-Some.is) ∙ found)

pub returns-in-Some : goal.returns-in-Some
returns-in-Some c =
    let found = find_from_yields_List shows _ _ c.find-base.result c.find-base.ensures.ran (segments_yield c.args.image.now c.segments.ensures.segments) (λ s b q k. search (rules, tests)) in
    base_found c.args.image.now _ c.segments.ensures.segments c.in-Some.segment (sym (ap (option_map (λ (s : SegmentView). s)) c.in-Some.is) ∙ found) c.is_safe_base.result c.is_safe_base.ensures

pub returns-in-None : goal.returns-in-None
returns-in-None c =
    let found = find_from_yields_List shows _ _ c.find-base.result c.find-base.ensures.ran (segments_yield c.args.image.now c.segments.ensures.segments) (λ s b q k. search (rules, tests)) in
    (λ wrong. absurd (false≢true wrong), λ safe. absurd (base_missing c.args.image.now _ c.segments.ensures.segments (sym (ap (option_map (λ (s : SegmentView). s)) c.in-None.is) ∙ found) safe))
