use Rattle.macho_fat.specs.Slices.{slice_of}
use Rattle.macho_strict.proofs.SliceSpans.{is_found, span_found}
use Rattle.macho_readers.proofs.slice_pages.slice_span.Goals as goal

pub unwrap-requires : goal.unwrap-requires
unwrap-requires c = is_found _ _ _ _ c.requires c.slice.ensures.slice

pub returns : goal.returns
returns c = span_found c.args.verified.now c.args.index (slice_of c.unwrap.result.now) (rw c.unwrap.ensures at c.slice.ensures.slice)
