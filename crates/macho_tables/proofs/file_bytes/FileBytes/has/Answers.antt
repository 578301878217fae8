use Rattle.std.proofs.Common.{List, Option, IfSome, refl, subst}
use Rattle.macho_spans.specs.declared.span.Span.{Span}
use Rattle.macho_tables.specs.SegmentMemory.{HoldMemory}
use Rattle.macho_tables.specs.declared.segment_memory.Extent.TheVariants as extents
use Rattle.macho_tables.proofs.SegmentMemory.{held_if_some, file_address}
use Rattle.macho_tables.proofs.file_bytes.FileBytes.has.Goals as goal

pub returns-then-holds-clause-found : goal.returns-then-holds-clause-found
returns-then-holds-clause-found c = (λ _. c.requires.held c.args.address (c.holds.ensures.0 c.if-holds.true), λ _. refl)

pub returns-in-Some-clause-found : goal.returns-in-Some-clause-found
returns-in-Some-clause-found c =
    let image = c.args.image.now in
    let hold = subst (λ (many : Option (List Span)). IfSome many (HoldMemory extents.File image)) c.in-Some.is c.requires.many in
    let held = held_if_some c.in-Some.parts c.args.address c.holding_next.result c.holding_next.ensures c.is_some.result c.is_some.ensures in
    let same = hold c.args.address in
    let file = file_address image c.args.address in
    (λ is. file.0 (same.0 (held.0 is)), λ any. held.1 (same.1 (file.1 any)))
