use Rattle.std.proofs.Common.{◌<◌, arith}
use Rattle.macho_fields.specs.Segment.{section_size}
use Rattle.macho_readers.specs.Sections.{HasBadName, IsAmbiguous, IsDebug}
use Rattle.macho_explain.proofs.BrokenImages.{counted}
use Rattle.macho_explain.proofs.BrokenReaders.{opens, section_there, segment_there}
use Rattle.macho_explain.proofs.readers_law.broken_segment_rule_is_about.Goals as goal

pub returns-clause-segment_name : goal.returns-clause-segment_name
returns-clause-segment_name c = λ keeps place broken.
    let image = c.args.image.now in
    let few = counted image (λ k. let f = c.type_inv.image k in omega (arith, f.fits)) in
    (segment_there image few keeps place broken.0, opens image few keeps)

pub returns-clause-segment_page : goal.returns-clause-segment_page
returns-clause-segment_page c = λ keeps place broken.
    let image = c.args.image.now in
    let few = counted image (λ k. let f = c.type_inv.image k in omega (arith, f.fits)) in
    segment_there image few keeps place broken.0

pub returns-clause-segment_protection : goal.returns-clause-segment_protection
returns-clause-segment_protection c = λ keeps place broken.
    let image = c.args.image.now in
    let few = counted image (λ k. let f = c.type_inv.image k in omega (arith, f.fits)) in
    segment_there image few keeps place broken.0

pub returns-clause-section_name : goal.returns-clause-section_name
returns-clause-section_name c = λ keeps place broken.
    let image = c.args.image.now in
    let few = counted image (λ k. let f = c.type_inv.image k in omega (arith, f.fits)) in
    (opens image few keeps, section_there image few keeps (HasBadName image) place broken)

pub returns-clause-section_alone : goal.returns-clause-section_alone
returns-clause-section_alone c = λ keeps place broken.
    let image = c.args.image.now in
    let few = counted image (λ k. let f = c.type_inv.image k in omega (arith, f.fits)) in
    (opens image few keeps, section_there image few keeps (λ section. (0 < section_size image section.1) × (¬ IsDebug image section) × IsAmbiguous image section) place broken)
