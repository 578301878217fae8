use Rattle.macho_fields.specs.Bytes.{bytes_of}
use Rattle.macho_spans.specs.Overlap.{sorted_spans}
use Rattle.macho_strict.proofs.gaps.stray_in.Goals as goal

pub returns : goal.returns
returns c = c.stray.ensures c.args.wanted (bytes_of c.args.bytes) (sorted_spans c.args.spans.now) c.gaps_in.ensures.passed
