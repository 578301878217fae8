use Rattle.std.proofs.Common.{refl, subst}
use Rattle.macho_fields.specs.Bytes.{bytes_of}
use Rattle.macho_spans.specs.Overlap.{sorted_spans}
use Rattle.macho_strict.specs.Elements.{elements_of}
use Rattle.macho_strict.specs.Passed.{occupied, IsByStart}
use Rattle.macho_strict.specs.Verdict.{element_spans}
use Rattle.macho_strict.proofs.Occupied.{cover_listed, least_covered}
use Rattle.macho_strict.proofs.Passed.{by_start_where_sorted}
use Rattle.macho_strict.proofs.Sharings.{drained_counted}
use Rattle.macho_strict.proofs.claims.Claims.stray.Goals as goal

pub stray-requires : goal.stray-requires
stray-requires c =
    let image = c.args.image.now in
    let ran = c.gaps_between.ensures in
    let (passed, _) = drained_counted c.args.wanted (elements_of image) c.of.result c.of.ensures.elements image (bytes_of c.bytes-in-None.result) c.bytes-in-None.ensures.bytes c.gaps_between.result ran.0 ran.1 ran.2 in
    by_start_where_sorted c.args.wanted image (element_spans image) c.gaps_between.result.gaps passed (subst (IsByStart (element_spans image)) c.in-None.is c.requires.by_start)

pub returns-in-None : goal.returns-in-None
returns-in-None c =
    let image = c.args.image.now in
    let ran = c.gaps_between.ensures in
    c.stray.ensures c.args.wanted image (element_spans image)
    (drained_counted c.args.wanted (elements_of image) c.of.result c.of.ensures.elements image (bytes_of c.bytes-in-None.result) c.bytes-in-None.ensures.bytes c.gaps_between.result ran.0 ran.1 ran.2).0

pub returns-in-Some : goal.returns-in-Some
returns-in-Some c =
    let image = c.args.image.now in
    let spans = element_spans image in
    let items = c.in-Some.sorted in
    let (moved, rising) = subst (IsByStart spans) c.in-Some.is c.requires.by_start in
    least_covered c.args.wanted image (bytes_of c.bytes.result) spans spans (sorted_spans items) c.stray_in.result c.bytes.ensures.bytes refl (cover_listed spans (occupied spans) (sorted_spans items) refl moved) c.stray_in.ensures
