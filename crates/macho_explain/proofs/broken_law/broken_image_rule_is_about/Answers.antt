use Rattle.std.proofs.Common.{arith, inl, inr}
use Rattle.macho_fields.specs.First.{rank}
use Rattle.macho_fields.specs.Segment.{HasRelocsOutside, IsMisplaced, IsOutsideMemory}
use Rattle.macho_fields.specs.declared.header.loader.TheConstants as loader
use Rattle.macho_fields.specs.declared.rule.Rule.TheVariants as rule
use Rattle.macho_explain.proofs.BrokenImages.{counted, of_commands, command_with, overlaps, section, segment}
use Rattle.macho_explain.proofs.broken_law.broken_image_rule_is_about.Goals as goal

pub returns-clause-segment_overlap : goal.returns-clause-segment_overlap
returns-clause-segment_overlap c = λ kept place broken.
    let image = c.args.image.now in
    let few = counted image (λ k. let f = c.type_inv.image k in omega (arith, f.fits)) in
    let here = of_commands image rule.SegmentOverlap place (λ (none : ⊥). none) broken in
    overlaps image few (rank rule.SegmentOverlap) (omega arith) kept place here

pub returns-clause-section_address : goal.returns-clause-section_address
returns-clause-section_address c = λ kept place broken.
    let image = c.args.image.now in
    let few = counted image (λ k. let f = c.type_inv.image k in omega (arith, f.fits)) in
    let here = of_commands image rule.SectionAddress place (λ (none : ⊥). none) broken in
    section image few (rank rule.SectionAddress) (omega arith) kept (IsOutsideMemory image) place here

pub returns-clause-section_file : goal.returns-clause-section_file
returns-clause-section_file c = λ kept place broken.
    let image = c.args.image.now in
    let few = counted image (λ k. let f = c.type_inv.image k in omega (arith, f.fits)) in
    let here = of_commands image rule.SectionFile place (λ (none : ⊥). none) broken in
    section image few (rank rule.SectionFile) (omega arith) kept (IsMisplaced image) place here

pub returns-clause-section_relocs : goal.returns-clause-section_relocs
returns-clause-section_relocs c = λ kept place broken.
    let image = c.args.image.now in
    let few = counted image (λ k. let f = c.type_inv.image k in omega (arith, f.fits)) in
    let here = of_commands image rule.SectionRelocs place (λ (none : ⊥). none) broken in
    section image few (rank rule.SectionRelocs) (omega arith) kept (λ segment. HasRelocsOutside image) place here

pub returns-clause-segment_address : goal.returns-clause-segment_address
returns-clause-segment_address c = λ kept place broken.
    let image = c.args.image.now in
    let few = counted image (λ k. let f = c.type_inv.image k in omega (arith, f.fits)) in
    let here = of_commands image rule.SegmentAddress place (λ (none : ⊥). none) broken in
    segment image few (rank rule.SegmentAddress) (omega arith) kept place here.0

pub returns-clause-segment_size : goal.returns-clause-segment_size
returns-clause-segment_size c = λ kept place broken.
    let image = c.args.image.now in
    let few = counted image (λ k. let f = c.type_inv.image k in omega (arith, f.fits)) in
    let here = of_commands image rule.SegmentSize place (λ (none : ⊥). none) broken in
    segment image few (rank rule.SegmentSize) (omega arith) kept place here.0

pub returns-clause-segment_file : goal.returns-clause-segment_file
returns-clause-segment_file c = λ kept place broken.
    let image = c.args.image.now in
    let few = counted image (λ k. let f = c.type_inv.image k in omega (arith, f.fits)) in
    let here = of_commands image rule.SegmentFile place (λ (none : ⊥). none) broken in
    segment image few (rank rule.SegmentFile) (omega arith) kept place here.0

pub returns-clause-entry : goal.returns-clause-entry
returns-clause-entry c = λ kept place broken.
    let image = c.args.image.now in
    let few = counted image (λ k. let f = c.type_inv.image k in omega (arith, f.fits)) in
    let here = of_commands image rule.Entry place (λ (none : ⊥). none) broken in
    command_with image few (rank rule.Entry) (omega arith) kept loader.LC_MAIN place here.0

pub returns-clause-header_truncated : goal.returns-clause-header_truncated
returns-clause-header_truncated c = λ kept place broken. elim broken [
  | inl header ↦ omega (arith, header.0)
  | inr (commands, are, none) ↦ absurd none
]

pub returns-clause-file_type : goal.returns-clause-file_type
returns-clause-file_type c = λ kept place broken. elim broken [
  | inl header ↦ omega (arith, header.0)
  | inr (commands, are, none) ↦ absurd none
]

pub returns-clause-commands_outside : goal.returns-clause-commands_outside
returns-clause-commands_outside c = λ kept place broken. elim broken [
  | inl header ↦ omega (arith, header.0)
  | inr (commands, are, none) ↦ absurd none
]

pub returns-clause-dylib_id : goal.returns-clause-dylib_id
returns-clause-dylib_id c = λ kept place broken. elim broken [
  | inl none ↦ absurd none
  | inr (commands, are, here) ↦ omega (arith, here.0)
]
