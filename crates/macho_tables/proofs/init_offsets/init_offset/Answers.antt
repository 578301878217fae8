use Rattle.std.proofs.lemmas.Bool.{both_ways}
use Rattle.macho_fields.specs.Image.{commands_of}
use Rattle.macho_fields.proofs.Lists.{any_of}
use Rattle.macho_image.specs.Segment.{sections_of}
use Rattle.macho_rules.proofs.Searches.{one_of}
use Rattle.macho_rules.proofs.MappingItems.{on_err}
use Rattle.macho_tables.specs.InitOffsets.{HasOffsets, BadOffset}
use Rattle.macho_tables.proofs.init_offsets.init_offset.Goals as goal

pub returns-then-not-has_init_offsets-clause-least : goal.returns-then-not-has_init_offsets-clause-least
returns-then-not-has_init_offsets-clause-least c place broken =
    let image = c.args.image.now in
    let (section, among, (has, bad)) = one_of (λ section. HasOffsets image section.0 section.1 × BadOffset image section.1 place) (sections_of image (commands_of image)) broken in
    both_ways c.has_init_offsets.result c.if-not-has_init_offsets.true (c.has_init_offsets.ensures.1 (any_of (λ section. HasOffsets image section.0 section.1) (sections_of image (commands_of image)) section among has))

pub returns-in_err-runs-clause-memory : goal.returns-in_err-runs-clause-memory
returns-in_err-runs-clause-memory c = on_err c.from_residual.result (c.has_init_offsets.ensures.0 c.if-not-has_init_offsets.false)
