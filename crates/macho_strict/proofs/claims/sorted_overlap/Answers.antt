use Rattle.std.proofs.Common.{rules}
use Rattle.macho_strict.specs.Elements.{elements_of}
use Rattle.macho_strict.proofs.Sharings.{tag_found, drained_spans, none_sharing, first_sharing}
use Rattle.macho_strict.proofs.claims.sorted_overlap.Goals as goal

pub returns-in_default : goal.returns-in_default
returns-in_default c =
    none_sharing (elements_of c.args.image.now) c.in_ok-list.list.spans (drained_spans (elements_of c.args.image.now) c.of-2.result c.of-2.ensures.elements c.in_ok-list.list.spans c.in_ok-list.ensures.0 c.in_ok-list.ensures.1 c.in_ok-list.ensures.2) c.in_default.ensures

pub returns : goal.returns
returns c =
    first_sharing (elements_of c.args.image.now) c.in_ok-list.list.spans (drained_spans (elements_of c.args.image.now) c.of-2.result c.of-2.ensures.elements c.in_ok-list.list.spans c.in_ok-list.ensures.0 c.in_ok-list.ensures.1 c.in_ok-list.ensures.2) c.in-Some.index c.in-Some.ensures
    c.nth.result _ c.of-3.result c.of-3.ensures.elements c.nth.ensures.ran c.map.result (tag_found c.nth.result c.map.result (search rules))
