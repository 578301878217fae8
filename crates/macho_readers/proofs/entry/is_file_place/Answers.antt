use Rattle.std.proofs.Common.{rules, tests}
use Rattle.macho_tables.proofs.Found.{any_segment}
use Rattle.macho_readers.specs.Entry.{HasByteOf}
use Rattle.macho_readers.proofs.entry.is_file_place.Goals as goal

pub returns : goal.returns
returns c =
    any_segment c.args.image.now c.segments.ensures.segments (λ image segment. HasByteOf image c.args.address c.args.place segment) c.any.result c.any.ensures.ran
    (λ s b q k. search (rules, tests))
