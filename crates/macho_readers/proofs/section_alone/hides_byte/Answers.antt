use Rattle.std.proofs.Common.{sym, ◌∙◌}
use Rattle.macho_readers.proofs.SectionAlone.{hides_asked}
use Rattle.macho_readers.proofs.section_alone.hides_byte.Goals as goal

pub returns-then-is_zero_fill : goal.returns-then-is_zero_fill
returns-then-is_zero_fill c =
    hides_asked c.args.section.now.image c.args.section.now.segment c.args.section.now.place c.requires (sym c.is_zero_fill.ensures ∙ c.if-is_zero_fill.true)
    c.segment-segment.result c.segment-segment.ensures c.addr.result c.vmaddr.result c.size.result c.addr.ensures c.vmaddr.ensures c.size.ensures c.has_bytes.result c.has_bytes.ensures
