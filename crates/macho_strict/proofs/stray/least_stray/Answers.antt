use Rattle.std.proofs.Common.{◌∷◌}
use Rattle.macho_fields.specs.Bytes.{bytes_of}
use Rattle.macho_spans.specs.Overlap.{sorted_spans}
use Rattle.macho_strict.specs.Verdict.{slice_spans}
use Rattle.macho_strict.specs.declared.gaps.Wanted.TheVariants as wanted
use Rattle.macho_strict.proofs.Occupied.{cover_moved, least_covered}
use Rattle.macho_strict.proofs.stray.least_stray.Goals as goal

pub returns-clause-found : goal.returns-clause-found
returns-clause-found c =
    let file = c.args.verified.now in
    least_covered wanted.NonZero file (bytes_of c.bytes.result) (c.args.table ∷ slice_spans file) c.in_ok-span_list.field-0.spans (sorted_spans c.sorted-spans.result) c.stray_in.result c.bytes.ensures.bytes c.in_ok-span_list.ensures (cover_moved c.in_ok-span_list.field-0.spans (sorted_spans c.sorted-spans.result) c.sorted-spans.ensures.permutation) c.stray_in.ensures
