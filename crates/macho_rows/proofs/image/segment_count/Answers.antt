use Rattle.std.proofs.Common.{inl, arith}
use Rattle.macho_rows.proofs.Counts.{no_more}
use Rattle.macho_rows.proofs.image.segment_count.Goals as goal

pub count-requires-clause-fits : goal.count-requires-clause-fits
count-requires-clause-fits c = inl (omega (arith, no_more c.args.image.now _ _ c.segments.result c.segments.ensures.segments, c.command_count.ensures))
