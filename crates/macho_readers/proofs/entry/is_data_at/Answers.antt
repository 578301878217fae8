use Rattle.std.proofs.Common.{rules, tests}
use Rattle.macho_fields.specs.Bytes.{bytes_of}
use Rattle.macho_tables.proofs.Found.{any_segment}
use Rattle.macho_readers.specs.Entry.{HasDataAt}
use Rattle.macho_readers.proofs.entry.is_data_at.Goals as goal

pub returns : goal.returns
returns c =
    any_segment c.args.image.now c.segments.ensures.segments (HasDataAt (bytes_of c.args.entries) c.args.address) c.any.result c.any.ensures.ran
    (λ s b q k. search (rules, tests))
