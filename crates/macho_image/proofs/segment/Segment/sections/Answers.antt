use Rattle.std.proofs.Common.{map, All, sym, ap, ◌∙◌, subst}
use Rattle.macho_fields.specs.Bytes.{bytes_of}
use Rattle.macho_image.specs.Segment.{SegmentView, section_at, sections_with}
use Rattle.macho_image.specs.Views.{HoldsSection}
use Rattle.macho_image.proofs.HeldSegments.{sections_held, items_counted_by, sections_seen}
use Rattle.macho_image.proofs.segment.Segment.sections.Goals as goal

pub invariant_of-result : goal.invariant_of-result
invariant_of-result c =
    let image = bytes_of c.self.inside.image in
    let segment = c.self.inside.place in
    subst (All (HoldsSection image segment)) (sym (items_counted_by image segment _ _ _ c.self.view_is c.nsects.ensures.number c.new.ensures)) (sections_held image segment c.self.invariant)

pub returns : goal.returns
returns c =
    let image = bytes_of c.self.inside.image in
    let segment = c.self.inside.place in
    ap (map (λ place. section_at image (segment, place))) (items_counted_by image segment _ _ _ c.self.view_is c.nsects.ensures.number c.new.ensures)
    ∙ (sections_seen image segment ∙ ap (λ (s : SegmentView). map (section_at s.image) (sections_with s.image s.place)) c.self.view_is)
