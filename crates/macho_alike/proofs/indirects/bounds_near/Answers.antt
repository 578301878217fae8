use Rattle.std.proofs.Common.{◌≡◌, ◌∙◌, ap, arith}
use Rattle.macho_fields.specs.Segment.{vmaddr, section_address, section_size}
use Rattle.macho_image.specs.Segment.{SegmentView}
use Rattle.macho_alike.proofs.indirects.bounds_near.Goals as goal

pub returns-clause-all : goal.returns-clause-all
returns-clause-all c =
    let section = c.args.section.now in
    let start : c.from-start.result ≡ section.segment = c.from-start.ensures ∙ (c.place.ensures ∙ ap (λ (s : SegmentView). s.place) c.segment-segment.ensures) in
    let base : c.vmaddr.result ≡ vmaddr section.image section.segment = c.vmaddr.ensures ∙ ap (λ (s : SegmentView). vmaddr s.image s.place) c.segment-segment.ensures in
    let address : c.addr.result ≡ section_address section.image section.place = c.addr.ensures in
    let size : c.size.result ≡ section_size section.image section.place = c.size.ensures in
    λ bound index has (pointers, its, few, (i, less, at, same)).
    c.bounds_between.ensures.all bound has (
      omega (arith, its, start, base, address, at, c.from.ensures, c.saturating_sub-past.ensures),
      omega (arith, its, start, base, address, size, at, less, c.from.ensures, c.from-2.ensures, c.saturating_sub-past.ensures),
    )
